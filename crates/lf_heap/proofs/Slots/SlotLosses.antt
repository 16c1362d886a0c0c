-- A slot more, a slot less, a slot replaced: the edge that is lost, and states that stay well-formed.
use Rattle.std.proofs.Common.{List, None, Option, Some, [], ap, inl, inr, length, refl, subst, sym, ℕ, ◌++◌, ◌<◌, ◌∙◌, ◌∷◌, ◌≡◌}
use Rattle.lf_base.specs.declared.values.Value.{Value}
use Rattle.lf_base.specs.EdgeLists.{SameEdges, near_edges}
use Rattle.lf_base.specs.Edges.{Slot, edges, edges_by, slot_targets}
use Rattle.lf_base.specs.PlainChanges.{put_slot, slot_at, with_slot, with_slot_at, with_slots}
use Rattle.lf_base.specs.PlainState.{State}
use Rattle.lf_base.specs.Sets.{Member}
use Rattle.lf_base.specs.WellFormed.{SlotMayHold, WellFormed}
use Rattle.lf_base.proofs.ListLemmas.Members.{Member_left, Member_of_append}
use Rattle.lf_laws.proofs.Changes.FewerFields.{put_member}
use Rattle.lf_laws.proofs.Changes.FurtherSlot.{slot_held}
use Rattle.lf_laws.proofs.Changes.SameOwners.{slots_keep, value_may_be_held}
use Rattle.lf_laws.proofs.Edges.SlotEdges.{all_push, all_put_slot, near_push, near_put_slot}
use Rattle.lf_settle.specs.LostEdges.{LosesPlace}
use Rattle.lf_heap.proofs.Slots.SlotPlaces.{slot_member}

-- what some slot may hold
abbrev pub MayHold : State → Option Value → Type 0
MayHold s w = (v : Value) → w ≡ Some v → SlotMayHold s v

module _ (s : State) (well : WellFormed s) where
  pub held_value : (v : Value) → Member (Some v) s.slots → SlotMayHold s v
  held_value v m = value_may_be_held s v well (slot_held s v m)

  pub push_well_formed : (w : Option Value) → MayHold s w → WellFormed (with_slot s w)
  push_well_formed w may = slots_keep s (s.slots ++ w ∷ []) well (λ v m. elim (Member_of_append (Some v) s.slots (w ∷ []) m) [
    | inl n ↦ held_value v n
    | inr (inl e) ↦ may v e
    | inr (inr n) ↦ absurd n
  ])

  pub put_well_formed : (n : ℕ) (w : Option Value) → MayHold s w → WellFormed (with_slot_at s n w)
  put_well_formed n w may = slots_keep s (put_slot s.slots n w) well (λ v m. elim (put_member s.slots n w (Some v) m) [
    | inl k ↦ held_value v k
    | inr e ↦ may v e
  ])

  -- a slot lifted
  pub lifted_well_formed : (n : ℕ) → WellFormed (with_slot (with_slot_at s n None) (slot_at s.slots n))
  lifted_well_formed n =
      slots_keep s (put_slot s.slots n None ++ slot_at s.slots n ∷ []) well (λ v m. elim (Member_of_append (Some v) (put_slot s.slots n None) (slot_at s.slots n ∷ []) m) [
        | inl k ↦ elim (put_member s.slots n None (Some v) k) [
          | inl i ↦ held_value v i
          | inr e ↦ absurd (cc)
        ]
        | inr (inl e) ↦ held_value v (slot_member s.slots n v e)
        | inr (inr k) ↦ absurd k
      ])

  -- a slot less
  pub drop_well_formed : (xs : List (Option Value)) (w : Option Value) → s.slots ≡ xs ++ w ∷ [] → WellFormed (with_slots s xs)
  drop_well_formed xs w e = slots_keep s xs well (λ v m. held_value v (subst (Member (Some v)) (sym e) (Member_left (Some v) xs (w ∷ []) m)))

  pub drop_loses : (xs : List (Option Value)) (w : Option Value) → s.slots ≡ xs ++ w ∷ [] → LosesPlace s (with_slots s xs) Slot (slot_targets w)
  drop_loses xs w e =
      let t : State = with_slots s xs in
      let is : s ≡ with_slot t w = ap (with_slots s) e in
      record {
        before = well;
        after = drop_well_formed xs w e;
        lost = record { same_names = refl; owners = λ o. refl; edges = subst (λ u. SameEdges (edges u) (edges_by Slot (slot_targets w) ++ edges t)) (sym is) (all_push t w) };
        near = subst (λ u. SameEdges (near_edges u) (edges_by Slot (slot_targets w) ++ near_edges t)) (sym is) (near_push t w);
      }

-- the slot more holds what the slot at a place gets
module _ (s : State) (well : WellFormed s) (n : ℕ) (w : Option Value) (there : n < length s.slots) (may : MayHold s w) where
  pub put_loses : LosesPlace (with_slot s w) (with_slot_at s n w) Slot (slot_targets (slot_at s.slots n))
  put_loses = record {
    before = push_well_formed s well w may;
    after = put_well_formed s well n w may;
    lost = record { same_names = refl; owners = λ o. refl; edges = λ p. all_push s w p ∙ all_put_slot s n w there p };
    near = λ p. near_push s w p ∙ near_put_slot s n w there p;
  }
