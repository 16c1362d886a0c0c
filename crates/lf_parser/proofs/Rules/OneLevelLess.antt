-- What a function that hands itself on needs: a number above zero is one more than another, with the rules at both.
use Rattle.std.proofs.Common.{◌≡◌, ℕ, zero, suc, ◌-◌, ◌<◌, List, [], ◌∷◌, Bool, true, false, refl, sym, ap, ◌∙◌, arith}
use Rattle.std.specs.Prelude.{ltb, if◌then◌else◌}
use Rattle.std.proofs.lemmas.Bool.{lt-ltb}
use Rattle.lf_lexer.specs.declared.tokens.Token.{Token}
use Rattle.lf_parser.specs.Kinds.{head}
use Rattle.lf_parser.specs.Parsers.{Parser, ◌>>=◌, pure, fail}
use Rattle.lf_parser.specs.declared.halt.Cause.TheVariants.{TooMany}
use Rattle.lf_lexer.specs.declared.tokens.Mark.TheVariants as mark
use Rattle.lf_parser.specs.Plain.{PlainStmt}
use Rattle.lf_parser.specs.ReadingFunctions.{levels_left, at_mark, chain_rest, rest_at, otherwise, arm_and_rest}
use Rattle.lf_parser.specs.Limits.{part_fits}

-- a number that isn't zero is one more than the number below it
pub deeper : {A : Type 0} (f : ℕ → A) (n : ℕ) → 0 < n → f n ≡ f (suc (n - 1))
deeper f n some = ap f (omega arith)

pub opens_at : (room : ℕ → Bool) (n : ℕ) → (levels_left room n).opens ≡ ltb 0 n
unfolding levels_left
opens_at room zero = refl
opens_at room (suc n) = sym (lt-ltb 0 (suc n) (omega arith))

-- what stands after an `if`
module _ (elifs levels : ℕ) (block : Parser (List PlainStmt)) where
  pub rest_plain : (n : ℕ) (ts : List Token) → at_mark mark.Elif (head ts) ≡ false → chain_rest part_fits elifs levels block n ts ≡ otherwise part_fits elifs levels block ts
  unfolding chain_rest
  rest_plain zero ts h = ap (λ b. (if b then fail TooMany else otherwise part_fits elifs levels block) ts) h
  rest_plain (suc n) ts h = ap (λ b. rest_at part_fits elifs levels block (arm_and_rest part_fits elifs levels block mark.Elif (chain_rest part_fits elifs levels block n)) b ts) h

  pub rest_elif : (n : ℕ) (ts : List Token) → 0 < n → at_mark mark.Elif (head ts) ≡ true
      → chain_rest part_fits elifs levels block n ts ≡ (arm_and_rest part_fits elifs levels block mark.Elif (chain_rest part_fits elifs levels block (n - 1)) >>= (λ s. pure (s ∷ []))) ts
  unfolding chain_rest
  rest_elif n ts some h = deeper (λ n. chain_rest part_fits elifs levels block n ts) n some ∙ one_less (n - 1)
    where
      one_less : (m : ℕ) → chain_rest part_fits elifs levels block (suc m) ts ≡ (arm_and_rest part_fits elifs levels block mark.Elif (chain_rest part_fits elifs levels block m) >>= (λ s. pure (s ∷ []))) ts
      one_less m = ap (λ b. rest_at part_fits elifs levels block (arm_and_rest part_fits elifs levels block mark.Elif (chain_rest part_fits elifs levels block m)) b ts) h
