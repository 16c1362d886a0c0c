-- A number for each kind of token, so that sets of kinds are ranges: first those that end an expression,
-- then those that begin one only, then those that may go on with one, the looser before the tighter.
-- There is room between the numbers: a word more is a name in its range, and a line where its kind is told.
use Rattle.std.specs.Prelude.{ℕ, List, [], ◌∷◌, Option, Some, None, Bool, eqb}
use Rattle.lf_lexer.specs.declared.tokens.Token.{Token}
use Rattle.lf_lexer.specs.declared.tokens.Lexeme.{Lexeme}
use Rattle.lf_lexer.specs.declared.tokens.Lexeme.TheVariants as lexeme
use Rattle.lf_lexer.specs.declared.tokens.Mark.{Mark}
use Rattle.lf_lexer.specs.declared.tokens.Mark.TheVariants as mark

-- the end of a script and of a line, and what begins and ends a block
abbrev pub END : ℕ
END = 0

abbrev pub NEW_LINE : ℕ
NEW_LINE = 10

abbrev pub INDENT : ℕ
INDENT = 20

abbrev pub DEDENT : ℕ
DEDENT = 30

-- what ends an expression
abbrev pub CLOSE_PAREN : ℕ
CLOSE_PAREN = 40

abbrev pub CLOSE_SQUARE : ℕ
CLOSE_SQUARE = 50

abbrev pub CLOSE_BRACE : ℕ
CLOSE_BRACE = 60

abbrev pub COMMA : ℕ
COMMA = 70

abbrev pub COLON : ℕ
COLON = 80

abbrev pub ASSIGN : ℕ
ASSIGN = 90

abbrev pub WITH : ℕ
WITH = 100

abbrev pub ELSE : ℕ
ELSE = 110

abbrev pub ELIF : ℕ
ELIF = 120

abbrev pub DEF : ℕ
DEF = 130

-- what begins a statement
abbrev pub DROP : ℕ
DROP = 140

abbrev pub RETURN : ℕ
RETURN = 150

abbrev pub PASS : ℕ
PASS = 160

abbrev pub IF : ℕ
IF = 170

abbrev pub WHILE : ℕ
WHILE = 180

abbrev pub WHEN : ℕ
WHEN = 190

-- what begins an expression
abbrev pub NUMBER : ℕ
NUMBER = 200

abbrev pub TEXT : ℕ
TEXT = 210

abbrev pub NAME : ℕ
NAME = 220

abbrev pub NONE : ℕ
NONE = 230

abbrev pub TRUE : ℕ
TRUE = 240

abbrev pub FALSE : ℕ
FALSE = 250

abbrev pub OPEN_BRACE : ℕ
OPEN_BRACE = 260

abbrev pub MOVE : ℕ
MOVE = 270

abbrev pub NOT : ℕ
NOT = 280

-- what goes on with an expression, the loosest first: operators, and what makes a field or a call of an operand
abbrev pub OR : ℕ
OR = 300

abbrev pub AND : ℕ
AND = 310

abbrev pub EQUAL : ℕ
EQUAL = 320

abbrev pub NOT_EQUAL : ℕ
NOT_EQUAL = 330

abbrev pub LESS : ℕ
LESS = 340

abbrev pub LESS_EQUAL : ℕ
LESS_EQUAL = 350

abbrev pub GREATER : ℕ
GREATER = 360

abbrev pub GREATER_EQUAL : ℕ
GREATER_EQUAL = 370

abbrev pub PLUS : ℕ
PLUS = 380

abbrev pub MINUS : ℕ
MINUS = 390

abbrev pub STAR : ℕ
STAR = 400

abbrev pub SLASH : ℕ
SLASH = 410

abbrev pub PERCENT : ℕ
PERCENT = 420

abbrev pub DOT : ℕ
DOT = 430

abbrev pub OPEN_SQUARE : ℕ
OPEN_SQUARE = 440

abbrev pub OPEN_PAREN : ℕ
OPEN_PAREN = 450

-- from here on kinds begin a statement, and from here on they begin an expression or go on with one
abbrev pub STATEMENTS : ℕ
STATEMENTS = DROP

abbrev pub EXPRESSIONS : ℕ
EXPRESSIONS = NUMBER

abbrev pub LAST_LITERAL : ℕ
LAST_LITERAL = FALSE

-- the first and the last operators of each level
abbrev pub COMPARISONS : ℕ
COMPARISONS = EQUAL

abbrev pub LAST_COMPARISON : ℕ
LAST_COMPARISON = GREATER_EQUAL

abbrev pub SUMS : ℕ
SUMS = PLUS

abbrev pub LAST_SUM : ℕ
LAST_SUM = MINUS

abbrev pub TERMS : ℕ
TERMS = STAR

abbrev pub LAST_TERM : ℕ
LAST_TERM = PERCENT

-- from here on kinds go on with an operand itself
abbrev pub SUFFIXES : ℕ
SUFFIXES = DOT

abbrev pub mark_kind : Mark → ℕ
mark_kind mark.CloseParen = CLOSE_PAREN
mark_kind mark.CloseSquare = CLOSE_SQUARE
mark_kind mark.CloseBrace = CLOSE_BRACE
mark_kind mark.Comma = COMMA
mark_kind mark.Colon = COLON
mark_kind mark.Assign = ASSIGN
mark_kind mark.With = WITH
mark_kind mark.Else = ELSE
mark_kind mark.Elif = ELIF
mark_kind mark.Def = DEF
mark_kind mark.Drop = DROP
mark_kind mark.Return = RETURN
mark_kind mark.Pass = PASS
mark_kind mark.If = IF
mark_kind mark.While = WHILE
mark_kind mark.When = WHEN
mark_kind mark.None = NONE
mark_kind mark.True = TRUE
mark_kind mark.False = FALSE
mark_kind mark.OpenBrace = OPEN_BRACE
mark_kind mark.Move = MOVE
mark_kind mark.Not = NOT
mark_kind mark.Or = OR
mark_kind mark.And = AND
mark_kind mark.Equal = EQUAL
mark_kind mark.NotEqual = NOT_EQUAL
mark_kind mark.Less = LESS
mark_kind mark.LessEqual = LESS_EQUAL
mark_kind mark.Greater = GREATER
mark_kind mark.GreaterEqual = GREATER_EQUAL
mark_kind mark.Plus = PLUS
mark_kind mark.Minus = MINUS
mark_kind mark.Star = STAR
mark_kind mark.Slash = SLASH
mark_kind mark.Percent = PERCENT
mark_kind mark.Dot = DOT
mark_kind mark.OpenSquare = OPEN_SQUARE
mark_kind mark.OpenParen = OPEN_PAREN

abbrev pub lexeme_kind : Lexeme → ℕ
lexeme_kind lexeme.End = END
lexeme_kind lexeme.NewLine = NEW_LINE
lexeme_kind lexeme.Indent = INDENT
lexeme_kind lexeme.Dedent = DEDENT
lexeme_kind (lexeme.Number n) = NUMBER
lexeme_kind (lexeme.Text t) = TEXT
lexeme_kind (lexeme.Name t) = NAME
lexeme_kind (lexeme.Mark m) = mark_kind m

-- the kind of a token; none at all is like the end
abbrev pub kind : Option Token → ℕ
kind None = END
kind (Some t) = lexeme_kind t.lexeme

-- the first of some tokens
abbrev pub head : List Token → Option Token
head [] = None
head (t ∷ ts) = Some t

-- whether a token is of this kind
abbrev pub is : ℕ → Option Token → Bool
is n o = eqb (kind o) n
