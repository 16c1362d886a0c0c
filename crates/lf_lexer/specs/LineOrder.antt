-- On which lines the tokens of each script stand: none on an earlier one than the token before it.
use Rattle.std.specs.Prelude.{ℕ, suc, ◌≤◌, List, [], ◌∷◌}
use Rattle.lf_lexer.specs.declared.tokens.Lexeme.{Lexeme}
use Rattle.lf_lexer.specs.declared.tokens.Lexeme.TheVariants as lexeme
use Rattle.lf_lexer.specs.declared.tokens.Token.{Token}

-- the least line of what stands after a lexeme of this line
abbrev pub least_line : Lexeme → ℕ → ℕ
least_line lexeme.NewLine line = suc line
least_line _ line = line

-- each of the tokens stands on this line or a later one, on no earlier line than the token before it, and on a later one
-- where that token ends its line
abbrev pub OnLines : ℕ → List Token → Type 0
OnLines line [] = Unit {0}
OnLines line (token ∷ tokens) = (line ≤ token.place.line) × OnLines (least_line token.lexeme token.place.line) tokens
