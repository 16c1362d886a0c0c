-- The words and the signs of the language.
use Rattle.std.specs.Prelude.{ℕ, ◌==◌, List, [], ◌∷◌, Option, Some, None, if◌then◌else◌}
use Rattle.std.specs.Str.{bytes_eq}
use Rattle.lf_lexer.specs.declared.tokens.Mark.{Mark}
use Rattle.lf_lexer.specs.declared.tokens.Mark.TheVariants.{And, Def, Drop, Elif, Else, False, If, Move, Not, Or, Pass, Return, True, When}
use Rattle.lf_lexer.specs.declared.tokens.Mark.TheVariants.{While, With, OpenParen, CloseParen, OpenSquare, CloseSquare, OpenBrace}
use Rattle.lf_lexer.specs.declared.tokens.Mark.TheVariants.{CloseBrace, Comma, Colon, Dot, Assign, Equal, NotEqual, Less, LessEqual}
use Rattle.lf_lexer.specs.declared.tokens.Mark.TheVariants.{Greater, GreaterEqual, Plus, Minus, Star, Slash, Percent}
use Rattle.lf_lexer.specs.declared.tokens.Mark.TheVariants as mark
use Rattle.lf_lexer.specs.Bytes.{words}

-- the marks of the words, in their order
abbrev pub word_marks : List Mark
word_marks =
    And ∷ Def ∷ Drop ∷ Elif ∷ Else ∷ False ∷ If ∷ Move ∷ mark.None ∷ Not ∷ Or ∷ Pass ∷ Return ∷ True ∷ When ∷ While ∷ With ∷ []

-- the mark of the word that these bytes are
abbrev pub mark_among : List ℕ → List (List ℕ) → List Mark → Option Mark
mark_among bytes [] marks = None
mark_among bytes (word ∷ more) [] = None
mark_among bytes (word ∷ more) (mark ∷ marks) = if bytes_eq bytes word then Some mark else mark_among bytes more marks

unfoldable pub word_of : List ℕ → Option Mark
word_of bytes = mark_among bytes words word_marks

-- the sign of this byte
unfoldable pub short_sign : ℕ → Option Mark
short_sign byte =
    if byte == 40 then Some OpenParen else
    if byte == 41 then Some CloseParen else
    if byte == 91 then Some OpenSquare else
    if byte == 93 then Some CloseSquare else
    if byte == 123 then Some OpenBrace else
    if byte == 125 then Some CloseBrace else
    if byte == 44 then Some Comma else
    if byte == 58 then Some Colon else
    if byte == 46 then Some Dot else
    if byte == 61 then Some Assign else
    if byte == 60 then Some Less else
    if byte == 62 then Some Greater else
    if byte == 43 then Some Plus else
    if byte == 45 then Some Minus else
    if byte == 42 then Some Star else
    if byte == 47 then Some Slash else
    if byte == 37 then Some Percent else None

-- the sign of these two bytes, the second of which is `=`
unfoldable pub long_sign : ℕ → ℕ → Option Mark
long_sign byte next =
    if next == 61 then
    (if byte == 61 then Some Equal else
    if byte == 33 then Some NotEqual else
    if byte == 60 then Some LessEqual else
    if byte == 62 then Some GreaterEqual else None)
    else None
