-- What the machine reaches, and where instructions stand.
use Rattle.std.proofs.Common.{◌≡◌, ℕ, zero, suc, ◌+◌, List, [], ◌∷◌, ◌++◌, length, Option, Some, refl, sym, ap, ◌∙◌, subst, arith}
use Rattle.std.specs.Prelude.{slice_get}
use Rattle.lf_base.specs.declared.faults.FaultAt.{FaultAt}
use Rattle.lf_code.specs.declared.body.Placed.{Placed}
use Rattle.lf_code.specs.declared.instr.Instr.{Instr}
use Rattle.lf_code.specs.CodeStep.{Frame, Config, Running, Over, Program, code_step, act, act_at, code_at, on_line, IsOver}
use Rattle.lf_code.specs.Progress.{Progress}
use Rattle.lf_code.specs.RunCode.{steps}

-- one configuration leads to another
pub data Reaches (p : Program) : Config → Config → Type 0 where
  stop : {x : Config} → Reaches p x x
  go : {x y : Config} → Reaches p (code_step p x) y → Reaches p x y

module _ (p : Program) where
  pub on : {x y z : Config} → Reaches p x y → Reaches p y z → Reaches p x z
  on stop q = q
  on (go r) q = go (on r q)

  -- one instruction
  pub one : (f : Frame) (fs : List Frame) (c : Progress) (line : ℕ) (i : Instr) (y : Config)
      → slice_get (code_at p f.body) f.at ≡ Some (on_line line i) → act p line i f fs c ≡ y → Reaches p (Running f fs c) y
  one f fs c line i y at e =
      let made : code_step p (Running f fs c) ≡ y = ap (λ o. act_at p o f fs c) at ∙ e in
      go (subst (λ d. Reaches p d y) (sym made) stop)

  -- what is over leads nowhere else
  from_over : (x y : Config) (d : Progress) (g : Option FaultAt) → x ≡ Over d g → Reaches p x y → y ≡ Over d g
  from_over x y d g e stop = e
  from_over x y d g e (go r) = from_over (code_step p x) y d g (ap (code_step p) e) r

  -- what is over and reached is what enough steps make
  pub done : (n : ℕ) (x y : Config) → Reaches p x y → IsOver y → IsOver (steps p n x) → steps p n x ≡ y
  done zero (Running f fs d) y r o h = absurd h
  done zero (Over d g) y r o h = sym (from_over (Over d g) y d g refl r)
  done (suc n) (Over d g) y r o h = sym (from_over (Over d g) y d g refl r)
  done (suc n) (Running f fs d) y stop o h = absurd o
  done (suc n) (Running f fs d) y (go r) o h = done n (code_step p (Running f fs d)) y r o h

-- these instructions stand from one address on, and end before another
abbrev pub CodeStandsAt : List Placed → ℕ → List Placed → ℕ → Type 0
CodeStandsAt code a [] b = a ≡ b
CodeStandsAt code a (i ∷ is) b = (slice_get code a ≡ Some i) × CodeStandsAt code (a + 1) is b

pub stands_front : (code : List Placed) (a b : ℕ) (xs ys : List Placed) → CodeStandsAt code a (xs ++ ys) b
    → CodeStandsAt code a xs (a + length xs)
stands_front code a b [] ys h = omega arith
stands_front code a b (x ∷ xs) ys h =
    let e : a + 1 + length xs ≡ a + suc (length xs) = omega arith in
    (h.0, subst (λ n. CodeStandsAt code (a + 1) xs n) e (stands_front code (a + 1) b xs ys h.1))

pub stands_back : (code : List Placed) (a b : ℕ) (xs ys : List Placed) → CodeStandsAt code a (xs ++ ys) b
    → CodeStandsAt code (a + length xs) ys b
stands_back code a b [] ys h = let e : a ≡ a + 0 = omega arith in subst (λ n. CodeStandsAt code n ys b) e h
stands_back code a b (x ∷ xs) ys h =
    let e : a + 1 + length xs ≡ a + suc (length xs) = omega arith in
    subst (λ n. CodeStandsAt code n ys b) e (stands_back code (a + 1) b xs ys h.1)

pub stands_end : (code : List Placed) (a b : ℕ) (xs : List Placed) → CodeStandsAt code a xs b → a + length xs ≡ b
stands_end code a b [] h = omega (arith, h)
stands_end code a b (x ∷ xs) h = omega (arith, stands_end code (a + 1) b xs h.1)
