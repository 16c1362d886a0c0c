-- The variables of a body at the start of a job.
use Rattle.std.proofs.Common.{List, None, Option, Some, [], add-one, ap, arith, get_or, inl, inr, length, length-append, refl, subst, suc, sym, take, true, zero, ℕ, ◌++◌, ◌+◌, ◌-◌, ◌<◌, ◌∙◌, ◌∷◌, ◌≡◌, ◌≤◌}
use Rattle.std.specs.Prelude.{map, replicate, slice_get}
use Rattle.std.proofs.Math.Seq.{take-suc}
use Rattle.std.proofs.lemmas.List.{get_or-replicate, length-map, length-replicate}
use Rattle.lf_base.specs.declared.values.Value.{Value}
use Rattle.lf_base.specs.Operands.{pushed}
use Rattle.lf_base.specs.PlainChanges.{with_slot, with_slots}
use Rattle.lf_base.specs.PlainState.{State}
use Rattle.lf_base.specs.SettledStates.{Settled}
use Rattle.lf_base.specs.Sets.{Member}
use Rattle.lf_base.specs.WellFormed.{SlotMayHold}
use Rattle.lf_code.specs.CodeStep.{Program, new_frame, vars_at, vars_of}
use Rattle.lf_code.specs.Operations.{first}
use Rattle.lf_code.specs.RunCode.{first_slots}
use Rattle.lf_code.specs.ValidCode.{has_params}
use Rattle.lf_laws.proofs.KeptStates.NothingDropped.{slot_more}
use Rattle.lf_machine.specs.Standing.{FrameStands}
use Rattle.lf_machine.proofs.Standing.ValidParts.{HasParams, params_at}

-- each variable is the value of its place, where there is one
variable_in : (values : List Value) (n at : ℕ) (d : Option Value) → at < length values + n → get_or (map Some values ++ replicate n None) at d ≡ slice_get values at
variable_in [] n at d h = get_or-replicate n at None d (omega (arith, h))
variable_in (v ∷ vs) n zero d h = refl
variable_in (v ∷ vs) n (suc at) d h = variable_in vs n at d (omega (arith, h))

pub first_slots_length : (values : List Value) (vars : ℕ) → length values ≤ vars → length (first_slots values vars) ≡ vars
first_slots_length values vars h =
    omega (arith, length-append (map Some values) (replicate (vars - length values) None), length-map values Some, length-replicate {A = Option Value} (vars - length values) None, h)

module _ (values : List Value) (vars : ℕ) (few : length values ≤ vars) where
  -- one variable more
  pub one_added : (s t u : State) (at : ℕ) (w : Option Value) → t ≡ with_slots s (take at (first_slots values vars)) → Settled t → u ≡ pushed w t
      → w ≡ slice_get values at → at < vars → u ≡ with_slots s (take (at + 1) (first_slots values vars))
  one_added s t u at w e settled came is h =
      let slots = first_slots values vars in
      came ∙ slot_more t w settled.all_stay ∙ ap (λ x. with_slot x w) e
      ∙ ap (λ x. with_slots s (take at slots ++ x ∷ [])) (is ∙ sym (variable_in values (vars - length values) at w (omega (arith, few, h))))
      ∙ ap (with_slots s) (sym (take-suc slots at w (omega (arith, first_slots_length values vars few, h))))
      ∙ ap (λ n. with_slots s (take n slots)) (sym (add-one at))

pub found_member : (values : List Value) (at : ℕ) (v : Value) → slice_get values at ≡ Some v → Member v values
found_member [] at v e = absurd (cc)
found_member (x ∷ xs) zero v e = inl (cc)
found_member (x ∷ xs) (suc at) v e = inr (found_member xs at v e)

-- a slot more may hold what it might before some slots came
pub held_behind : (s t : State) (slots : List (Option Value)) (v : Value) → t ≡ with_slots s slots → SlotMayHold s v → SlotMayHold t v
held_behind s t slots v e h = subst (λ x. SlotMayHold x v) (sym e) (record { object_there = h.object_there; cown_numbered = h.cown_numbered })

-- a body at its start
pub start_stands : (p : Program) (body count slots : ℕ) → has_params (slice_get p.bodies body) count ≡ true → slots ≡ vars_at p body
    → FrameStands p (new_frame body 0) slots
start_stands p body count slots e many =
    let has : HasParams p.bodies body count = params_at p.bodies body count e in
    let vars : vars_at p body ≡ has.called.vars = ap vars_of has.there in
    record { body = has.called; there = has.there; operands = 0; reached = first; slots_are = omega (arith, many, vars) }
