-- What is lexed so far, with one token more.
use Rattle.std.specs.Prelude.{ℕ, ◌+◌, [], ◌∷◌, ◌++◌, length}
use Rattle.lf_base.specs.Texts.{Text, place_of, with_text}
use Rattle.lf_lexer.specs.declared.tokens.Lexeme.TheVariants as lexeme
use Rattle.lf_lexer.specs.declared.tokens.Token.{Token}
use Rattle.lf_lexer.specs.declared.lexed.Lexed.{Lexed}
use Rattle.lf_lexer.specs.declared.line_start.LineStart.{LineStart}
use Rattle.lf_lexer.specs.Places.{token_at}

abbrev pub with_token : Lexed → Token → Lexed
with_token lexed token = record lexed { tokens = lexed.tokens ++ token ∷ [] }

-- a name's text is numbered by its place among the texts so far
abbrev pub with_name : LineStart → Lexed → ℕ → Text → Lexed
with_name line lexed at name = record {
  tokens = lexed.tokens ++ token_at line at (lexeme.Name (record { index = place_of lexed.texts name })) (length name) ∷ [];
  texts = with_text lexed.texts name;
}

-- a text with so many bytes between its quotes is numbered likewise
abbrev pub with_quoted : LineStart → Lexed → ℕ → Text → ℕ → Lexed
with_quoted line lexed at text len = record {
  tokens = lexed.tokens ++ token_at line at (lexeme.Text (record { index = place_of lexed.texts text })) (len + 2) ∷ [];
  texts = with_text lexed.texts text;
}
