-- How the tokens of each script lie: between which of them lines and levels begin and end.
use Rattle.std.specs.Prelude.{◌≡◌, ℕ, suc, Bool, true, false, List, [], ◌∷◌}
use Rattle.lf_lexer.specs.declared.tokens.Lexeme.{Lexeme}
use Rattle.lf_lexer.specs.declared.tokens.Lexeme.TheVariants as lexeme
use Rattle.lf_lexer.specs.declared.tokens.Token.{Token}

-- the lexemes that have bytes
abbrev pub has_bytes : Lexeme → Bool
has_bytes (lexeme.Name id) = true
has_bytes (lexeme.Number value) = true
has_bytes (lexeme.Text id) = true
has_bytes (lexeme.Mark mark) = true
has_bytes _ = false

-- where tokens go on: where a line may begin, after the level that a line opens, after one that closes, or within a line
pub data LayoutSpot : Type 0 where
  at_line : LayoutSpot
  after_open : LayoutSpot
  after_close : LayoutSpot
  in_line : LayoutSpot

-- no line stands open there
abbrev pub BetweenLines : LayoutSpot → Type 0
BetweenLines at_line = Unit {0}
BetweenLines after_close = Unit {0}
BetweenLines _ = ⊥

-- the tokens from a spot on, where so many levels are open: a level opens once at most before a line, and only at its front;
-- no line is empty; levels close before a line or before the end; the one end is the last token, and no level is open there
pub data Laid : LayoutSpot → ℕ → List Token → Type 0 where
  ends : {spot : LayoutSpot} {token : Token} → BetweenLines spot → token.lexeme ≡ lexeme.End → Laid spot 0 (token ∷ [])
  opens : {depth : ℕ} {token : Token} {tokens : List Token} → token.lexeme ≡ lexeme.Indent → Laid after_open (suc depth) tokens
      → Laid at_line depth (token ∷ tokens)
  closes : {spot : LayoutSpot} {depth : ℕ} {token : Token} {tokens : List Token} → BetweenLines spot → token.lexeme ≡ lexeme.Dedent
      → Laid after_close depth tokens
      → Laid spot (suc depth) (token ∷ tokens)
  goes_on : {spot : LayoutSpot} {depth : ℕ} {token : Token} {tokens : List Token} → has_bytes token.lexeme ≡ true
      → Laid in_line depth tokens → Laid spot depth (token ∷ tokens)
  line_ends : {depth : ℕ} {token : Token} {tokens : List Token} → token.lexeme ≡ lexeme.NewLine → Laid at_line depth tokens
      → Laid in_line depth (token ∷ tokens)
