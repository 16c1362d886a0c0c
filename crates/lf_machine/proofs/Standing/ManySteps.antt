-- Several steps, one after the other.
use Rattle.std.proofs.Common.{Option, ap, arith, refl, subst, suc, sym, zero, ℕ, ◌<◌, ◌∙◌, ◌≡◌}
use Rattle.lf_base.specs.declared.faults.FaultAt.{FaultAt}
use Rattle.lf_code.specs.CodeStep.{Config, IsOver, Over, Program, Running, code_step}
use Rattle.lf_code.specs.Progress.{Progress}
use Rattle.lf_code.specs.RunCode.{steps}
use Rattle.lf_machine.specs.Behaviours.{ComesFrom, IsGoing}

module _ (p : Program) where
  -- what is over stays so
  stays : (n : ℕ) (c : Progress) (g : Option FaultAt) → steps p n (Over c g) ≡ Over c g
  stays zero c g = refl
  stays (suc n) c g = refl

  -- two runs that are over have the same end
  pub one_end : (n m : ℕ) (x : Config) → IsOver (steps p n x) → IsOver (steps p m x) → steps p n x ≡ steps p m x
  one_end n m (Over c g) h k = stays n c g ∙ sym (stays m c g)
  one_end zero m (Running f fs c) h k = absurd h
  one_end (suc n) zero (Running f fs c) h k = absurd k
  one_end (suc n) (suc m) (Running f fs c) h k = one_end n m (code_step p (Running f fs c)) h k

  -- one step more
  one_more : (n : ℕ) (x : Config) → steps p (suc n) x ≡ steps p 1 (steps p n x)
  one_more zero x = refl
  one_more (suc n) (Over c g) = refl
  one_more (suc n) (Running f fs c) = one_more n (code_step p (Running f fs c))

  one_step : (y : Config) → IsGoing y → steps p 1 y ≡ code_step p y
  one_step (Running f fs c) h = refl
  one_step (Over c g) h = absurd h

  pub comes_further : (x y z : Config) → ComesFrom p x y → IsGoing y → z ≡ code_step p y → ComesFrom p x z
  comes_further x y z from going e = (suc from.0, one_more from.0 x ∙ ap (steps p 1) from.1 ∙ one_step y going ∙ sym e)

  still_over : (y : Config) → IsOver y → IsOver (steps p 1 y)
  still_over (Over c g) h = tt
  still_over (Running f fs c) h = absurd h

  -- the end of so many steps is that of the same after one step
  pub over_after : (n : ℕ) (y z : Config) → IsGoing y → z ≡ code_step p y → IsOver (steps p n y) → IsOver (steps p n z)
  over_after n (Over c g) z going e h = absurd going
  over_after zero (Running f fs c) z going e h = absurd h
  over_after (suc n) (Running f fs c) z going e h =
      subst (λ x. IsOver (steps p (suc n) x)) (sym e)
      (subst IsOver (sym (one_more n (code_step p (Running f fs c)))) (still_over (steps p n (code_step p (Running f fs c))) h))

  -- how many of so many steps are made before the end
  abbrev pub left : ℕ → Config → ℕ
  left zero x = 0
  left (suc n) (Over c g) = 0
  left (suc n) (Running f fs c) = suc (left n (code_step p (Running f fs c)))

  same_left : (n : ℕ) (y : Config) → IsOver (steps p n y) → left (suc n) y ≡ left n y
  same_left zero (Over c g) h = refl
  same_left zero (Running f fs c) h = absurd h
  same_left (suc n) (Over c g) h = refl
  same_left (suc n) (Running f fs c) h = ap suc (same_left n (code_step p (Running f fs c)) h)

  pub fewer_left : (n : ℕ) (y z : Config) → IsGoing y → z ≡ code_step p y → IsOver (steps p n y) → left n z < left n y
  fewer_left n (Over c g) z going e h = absurd going
  fewer_left zero (Running f fs c) z going e h = absurd h
  fewer_left (suc n) (Running f fs c) z going e h =
      subst (λ x. left (suc n) x < suc (left n (code_step p (Running f fs c)))) (sym e)
      (omega (arith, same_left n (code_step p (Running f fs c)) h))
