-- The order of the places and the spans of each script's tokens.
use Rattle.std.specs.Prelude.{◌≡◌, ◌⊎◌, ℕ, ◌+◌, ◌-◌, ◌<◌, ◌≤◌, Bool, true, false, List, [], ◌∷◌}
use Rattle.lf_base.specs.declared.refusals.Place.{Place}
use Rattle.lf_lexer.specs.declared.tokens.Token.{Token}
use Rattle.lf_lexer.specs.Layout.{has_bytes}

-- a place on a later line, or on this one at this column or after it
abbrev pub AtOrAfter : ℕ → ℕ → Place → Type 0
AtOrAfter line column place = (line < place.line) ⊎ ((line ≡ place.line) × (column ≤ place.column))

-- the span is empty exactly where the lexeme has no bytes
abbrev pub HasSpan : Bool → Token → Type 0
HasSpan true token = token.start < token.end
HasSpan false token = token.start ≡ token.end

-- a token stands at or after this place, and its span at or after this byte
pub record StartsAtOrAfter (line column byte : ℕ) (token : Token) : Type 0 where
  pub place : AtOrAfter line column token.place
  pub start : byte ≤ token.start
  pub span : HasSpan (has_bytes token.lexeme) token

-- each of the tokens stands at or after the end of the one before it, from this place and byte on;
-- so the places of tokens that have bytes rise strictly, and the spans don't fall
abbrev pub InTokenOrder : ℕ → ℕ → ℕ → List Token → Type 0
InTokenOrder line column byte [] = Unit {0}
InTokenOrder line column byte (token ∷ tokens) =
    StartsAtOrAfter line column byte token × InTokenOrder token.place.line (token.place.column + (token.end - token.start)) token.end tokens
