-- Places and spans, by the line and the number of its bytes that stand before.
use Rattle.std.specs.Prelude.{ℕ, ◌+◌}
use Rattle.lf_base.specs.declared.refusals.Place.{Place}
use Rattle.lf_lexer.specs.declared.tokens.Lexeme.{Lexeme}
use Rattle.lf_lexer.specs.declared.tokens.Token.{Token}
use Rattle.lf_lexer.specs.declared.line_start.LineStart.{LineStart}

-- the place of the byte of a line before which stand so many others
abbrev pub place_at : LineStart → ℕ → Place
place_at line at = record { line = line.number; column = at + 1 }

-- the token of so many bytes at that place
abbrev pub token_at : LineStart → ℕ → Lexeme → ℕ → Token
token_at line at kind len = record {
  lexeme = kind;
  place = place_at line at;
  start = line.start + at;
  end = line.start + at + len;
}
