-- A further slot may hold a value exactly where the state with that slot is well-formed.
use Rattle.std.proofs.Common.{Some, [], inl, inr, refl, subst, ◌++◌, ◌∷◌}
use Rattle.std.specs.Prelude.{option_to_list, ◌↔◌}
use Rattle.lf_base.specs.declared.values.Value.{Value}
use Rattle.lf_base.specs.PlainChanges.{with_slot}
use Rattle.lf_base.specs.PlainState.{State}
use Rattle.lf_base.specs.Sets.{Member}
use Rattle.lf_base.specs.WellFormed.{SlotMayHold, WellFormed, all_values, slot_values}
use Rattle.lf_base.proofs.ListLemmas.Tests.{some_is}
use Rattle.lf_base.proofs.ListLemmas.Members.{Member_flat_map, Member_left, Member_of_append, Member_right}
use Rattle.lf_laws.proofs.Changes.SameOwners.{slots_keep, value_may_be_held}

-- what a slot holds is among the values
pub slot_held : (s : State) (v : Value) → Member (Some v) s.slots → Member v (all_values s)
slot_held s v m = Member_left v (slot_values s.slots) _ (Member_flat_map option_to_list (Some v) v s.slots m (inl refl))

module _ (s : State) (v : Value) (t : WellFormed s) where
  slot_keeps : SlotMayHold s v → WellFormed (with_slot s (Some v))
  slot_keeps h = slots_keep s (s.slots ++ Some v ∷ []) t (λ w m. elim (Member_of_append (Some w) s.slots (Some v ∷ []) m) [
    | inl n ↦ value_may_be_held s w t (slot_held s w n)
    | inr (inl e) ↦ subst (SlotMayHold s) (some_is v w e) h
    | inr (inr z) ↦ absurd z
  ])

  slot_needs : WellFormed (with_slot s (Some v)) → SlotMayHold s v
  slot_needs w =
      let held = value_may_be_held (with_slot s (Some v)) v w (slot_held (with_slot s (Some v)) v (Member_right (Some v) s.slots (Some v ∷ []) (inl refl))) in
      record { object_there = held.object_there; cown_numbered = held.cown_numbered }

  pub slot_law : SlotMayHold s v ↔ WellFormed (with_slot s (Some v))
  slot_law = (slot_keeps, slot_needs)
