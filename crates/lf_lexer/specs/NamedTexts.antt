-- Which texts the tokens of each script name.
use Rattle.std.specs.Prelude.{ℕ, ◌<◌, List, [], ◌∷◌}
use Rattle.lf_lexer.specs.declared.tokens.Lexeme.{Lexeme}
use Rattle.lf_lexer.specs.declared.tokens.Lexeme.TheVariants as lexeme
use Rattle.lf_lexer.specs.declared.tokens.Token.{Token}

-- the text that a lexeme names, if it names one, is among so many
abbrev pub NamesWithin : ℕ → Lexeme → Type 0
NamesWithin count (lexeme.Name id) = id.index < count
NamesWithin count (lexeme.Text id) = id.index < count
NamesWithin count _ = Unit {0}

abbrev pub AllNameWithin : ℕ → List Token → Type 0
AllNameWithin count [] = Unit {0}
AllNameWithin count (token ∷ tokens) = NamesWithin count token.lexeme × AllNameWithin count tokens
