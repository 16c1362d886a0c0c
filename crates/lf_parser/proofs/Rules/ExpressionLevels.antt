-- The rules of expressions at each number of levels that may be opened, by recursion on that number.
use Rattle.std.proofs.Common.{◌≡◌, ℕ, zero, suc, ◌<◌, ◌≤◌, [], Some, Bool, false, refl, arith, ◌⊎◌}
use Rattle.lf_lexer.specs.declared.tokens.Token.{Token}
use Rattle.lf_parser.specs.declared.halt.Cause.{Cause}
use Rattle.lf_parser.specs.declared.halt.Cause.TheVariants.{Unexpected, TooDeep, TooMany}
use Rattle.lf_parser.specs.Kinds.{kind, END}
use Rattle.lf_parser.specs.Forms.{HasPrefix}
use Rattle.lf_parser.specs.Grammar.{Deeper, within}
use Rattle.lf_parser.specs.ReadingFunctions.{levels_left}
use Rattle.lf_parser.proofs.Rules.RuleProperties.{RuleSetting}
use Rattle.lf_parser.proofs.Rules.OneToken.{Guard}
use Rattle.lf_parser.proofs.Rules.FormsHaveTokens.{some_expr, some_unary, some_neg}
use Rattle.lf_parser.proofs.Rules.ExpressionRules.{Deep, rule_expr, rule_unary, rule_neg}

-- one level more, where levels are what a refusal wants
abbrev pub extra : Cause → ℕ
extra TooDeep = 1
extra _ = 0

-- so many levels, and that one
abbrev pub levels_for : Cause → ℕ → ℕ
levels_for c zero = extra c
levels_for c (suc d) = suc (levels_for c d)

module _ (g : RuleSetting) (fits : (t : Token) → END < kind (Some t) → g.fits t) (n : ℕ)
    (Room : Cause → ℕ → Type 0) (room room' : ℕ → Bool) (roomy : (count : ℕ) → Guard g n TooMany (λ c. Room c count) (room count) (room' count)) where
  abbrev pub D : ℕ → Cause → Deeper
  D d c = within (Room c) (levels_for c d)

  pub deep : (d d' : ℕ) → d ≤ d' → (g.stays TooDeep ⊎ (0 < n) → d ≡ d') → Deep g n (D d) (levels_left room d) (levels_left room' d')
  unfolding within levels_left
  deep zero d' le same = record {
    opens = record { yes' = λ e. absurd (cc); no' = λ e. tt; back = λ e. absurd e; wider = λ e. absurd (cc); alike = λ h. shut d' (same h) };
    expr = λ e. absurd (cc);
    unary = λ e. absurd (cc);
    neg = λ e. absurd (cc);
    some_expr = open_expr;
    some_unary = open_unary;
    some_neg = open_neg;
  }
    where
      shut : (d' : ℕ) → 0 ≡ d' → false ≡ (levels_left room' d').opens
      shut zero e = refl
      shut (suc d') e = absurd (omega arith)

      open_expr : (c : Cause) → (D 0 c).opens → HasPrefix (D 0 c).expr []
      open_expr TooDeep h = some_expr (Room TooDeep) (within (Room TooDeep) 0)
      open_expr Unexpected h = absurd h
      open_expr TooMany h = absurd h

      open_unary : (c : Cause) → (D 0 c).opens → HasPrefix (D 0 c).unary []
      open_unary TooDeep h = some_unary (Room TooDeep) (within (Room TooDeep) 0)
      open_unary Unexpected h = absurd h
      open_unary TooMany h = absurd h

      open_neg : (c : Cause) → (D 0 c).opens → HasPrefix (D 0 c).neg []
      open_neg TooDeep h = some_neg (Room TooDeep) (within (Room TooDeep) 0)
      open_neg Unexpected h = absurd h
      open_neg TooMany h = absurd h
  deep (suc d) zero le same = absurd (omega arith)
  deep (suc d) (suc d') le same =
      let below = deep d d' (omega arith) (λ h. let e = same h in omega arith) in
      record {
        opens = record { yes' = λ e c. tt; no' = λ e. absurd (cc); back = λ e. refl; wider = λ e. refl; alike = λ h. refl };
        expr = λ e. rule_expr g fits n Room room room' roomy (D d) (levels_left room d) (levels_left room' d') below;
        unary = λ e. rule_unary g fits n Room room room' roomy (D d) (levels_left room d) (levels_left room' d') below;
        neg = λ e. rule_neg g fits n Room room room' roomy (D d) (levels_left room d) (levels_left room' d') below;
        some_expr = λ c h. some_expr (Room c) (D d c);
        some_unary = λ c h. some_unary (Room c) (D d c);
        some_neg = λ c h. some_neg (Room c) (D d c);
      }
