-- The tokens and texts that pieces make.
use Rattle.std.specs.Prelude.{ℕ, List, [], ◌∷◌, length, flat_map, pos}
use Rattle.std.specs.Str.Parse.{digits_value}
use Rattle.lf_base.specs.Texts.{Text, place_of, with_texts, fixed_texts}
use Rattle.lf_lexer.specs.declared.tokens.Lexeme.{Lexeme}
use Rattle.lf_lexer.specs.declared.tokens.Lexeme.TheVariants as lexeme
use Rattle.lf_lexer.specs.declared.tokens.Token.{Token}
use Rattle.lf_lexer.specs.Places.{token_at}
use Rattle.lf_lexer.specs.Pieces.{PieceForm, name, number, text_of, mark_of, line_end, level_opens, level_closes, script_end, Piece}

-- the text that a piece brings in
abbrev pub texts_of_form : PieceForm → List ℕ → List Text
texts_of_form name bytes = bytes ∷ []
texts_of_form (text_of text) bytes = text ∷ []
texts_of_form _ bytes = []

abbrev pub texts_of_pieces : List Piece → List Text
texts_of_pieces pieces = flat_map (λ piece. texts_of_form piece.form piece.bytes) pieces

-- the script's texts: the fixed ones, and then those of its pieces as they are first seen
abbrev pub script_texts : List Piece → List Text
script_texts pieces = with_texts fixed_texts (texts_of_pieces pieces)

-- what a token is, its text numbered by its place
abbrev pub lexeme_of : List Text → PieceForm → List ℕ → Lexeme
lexeme_of texts name bytes = lexeme.Name (record { index = place_of texts bytes })
lexeme_of texts number bytes = lexeme.Number (pos (digits_value 10 bytes))
lexeme_of texts (text_of text) bytes = lexeme.Text (record { index = place_of texts text })
lexeme_of texts (mark_of mark) bytes = lexeme.Mark mark
lexeme_of texts line_end bytes = lexeme.NewLine
lexeme_of texts level_opens bytes = lexeme.Indent
lexeme_of texts level_closes bytes = lexeme.Dedent
lexeme_of texts script_end bytes = lexeme.End

-- the token of a piece, in a script with these texts
abbrev pub token_of : List Text → Piece → Token
token_of texts piece = token_at piece.line piece.at (lexeme_of texts piece.form piece.bytes) (length piece.bytes)
