-- States on which dropping before a freeze, and before a closing, isn't dropping at once.
use Rattle.std.proofs.Common.{Some, [], ap, arith, inl, inr, length, pos, refl, subst, true, ℕ, ◌∷◌, ◌≡◌}
use Rattle.lf_base.specs.declared.ids.ObjId.{ObjId}
use Rattle.lf_base.specs.declared.values.Key.{Key}
use Rattle.lf_base.specs.declared.values.Key.TheVariants.{Int}
use Rattle.lf_base.specs.declared.values.Owner.TheVariants.{In, Local}
use Rattle.lf_base.specs.declared.values.Value.TheVariants as value
use Rattle.lf_base.specs.declared.values.Value.TheVariants.{Obj}
use Rattle.lf_base.specs.CloseResult.{close_result}
use Rattle.lf_base.specs.FreezeResult.{freeze_result}
use Rattle.lf_base.specs.Kept.{kept}
use Rattle.lf_base.specs.Owners.{owner_of}
use Rattle.lf_base.specs.PlainChanges.{first_state, object_result, region_result, slot_at, with_slots}
use Rattle.lf_base.specs.PlainState.{State}
use Rattle.lf_base.specs.TakeResult.{take_result}
use Rattle.lf_base.specs.WellFormed.{MayBeGiven, SlotMayHold, WellFormed, from_near}
use Rattle.lf_base.specs.WriteResult.{write_result}
use Rattle.lf_base.proofs.ListLemmas.Tests.{some_is}
use Rattle.lf_laws.proofs.Changes.FewerFields.{take_keeps}
use Rattle.lf_laws.proofs.Changes.FirstState.{first_whole}
use Rattle.lf_laws.proofs.Changes.NewRows.{new_row_keeps}
use Rattle.lf_laws.proofs.Changes.SameOwners.{slots_keep}
use Rattle.lf_laws.proofs.Writes.WriteLaw.{write_law}

abbrev pub object : ℕ → ObjId
object n = record { birth = 0; seq = n }

abbrev key : Key
key = Int (pos 0)

there : (s : State) (o : ObjId) → from_near (owner_of s o) ≡ true → SlotMayHold s (Obj o)
there s o e = record {
  object_there = λ p m. elim m [ inl k ↦ subst (λ n. from_near (owner_of s n) ≡ true) k e | inr n ↦ absurd n ];
  cown_numbered = λ c m. absurd m;
}

none_given : MayBeGiven 0 []
none_given = record {
  rise = tt;
  keys_differ = λ x m. absurd m;
  frozen = λ x m. absurd m;
  leads = λ e m. absurd m;
  no_object = λ o m. absurd m;
  no_cown = λ c m. absurd m;
}

abbrev one_region : State
one_region = region_result (first_state 0 [])

one_whole : WellFormed one_region
one_whole = new_row_keeps (first_state 0 []) (In (object 1)) (first_whole 0 [] none_given) (inr refl)

-- ---- a region with an inner row to which nothing leads
abbrev with_object : State
with_object = object_result one_region

abbrev moved_in : State
moved_in = write_result with_object (object 1) key (Obj (object 2))

moved_whole : WellFormed moved_in
moved_whole = (write_law with_object (new_row_keeps one_region Local one_whole (inl refl)) (object 1) key (Obj (object 2)) (there with_object (object 2) refl) (In (object 1)) refl).0 refl

abbrev left_alone : State
left_alone = take_result moved_in (object 1) key

abbrev pub lone_inner : State
lone_inner = with_slots left_alone (Some (Obj (object 1)) ∷ [])

pub lone_whole : WellFormed lone_inner
lone_whole = slots_keep left_alone (Some (Obj (object 1)) ∷ []) (take_keeps moved_in (object 1) key moved_whole) (λ v m. elim m [
  | inl e ↦ subst (SlotMayHold left_alone) (some_is (Obj (object 1)) v e) (there left_alone (object 1) refl)
  | inr n ↦ absurd n
])

pub freezes_more : kept (freeze_result (kept lone_inner) (Obj (object 1))) ≡ kept (freeze_result lone_inner (Obj (object 1))) → ⊥
freezes_more e =
    let one : ℕ = 1 in
    let two : ℕ = 2 in
    let rows_frozen : one ≡ two = ap (λ (s : State). length s.own) e in
    absurd (omega (arith, rows_frozen))

-- ---- such a row that owns a region
abbrev two_regions : State
two_regions = region_result one_region

abbrev third : State
third = object_result two_regions

third_whole : WellFormed third
third_whole = new_row_keeps two_regions Local (new_row_keeps one_region (In (object 2)) one_whole (inr refl)) (inl refl)

abbrev borrowing : State
borrowing = write_result third (object 3) key (Obj (object 2))

borrowing_whole : WellFormed borrowing
borrowing_whole = (write_law third third_whole (object 3) key (Obj (object 2)) (there third (object 2) refl) Local refl).0 refl

abbrev owning : State
owning = write_result borrowing (object 1) key (Obj (object 3))

owning_whole : WellFormed owning
owning_whole = (write_law borrowing borrowing_whole (object 1) key (Obj (object 3)) (there borrowing (object 3) refl) (In (object 1)) refl).0 refl

abbrev owning_still : State
owning_still = take_result owning (object 1) key

abbrev pub lone_owner : State
lone_owner = with_slots owning_still (Some (Obj (object 1)) ∷ (Some (Obj (object 2)) ∷ []))

pub owner_whole : WellFormed lone_owner
owner_whole = slots_keep owning_still (Some (Obj (object 1)) ∷ (Some (Obj (object 2)) ∷ [])) (take_keeps owning (object 1) key owning_whole) (λ v m. elim m [
  | inl e ↦ subst (SlotMayHold owning_still) (some_is (Obj (object 1)) v e) (there owning_still (object 1) refl)
  | inr n ↦ elim n [
    | inl e ↦ subst (SlotMayHold owning_still) (some_is (Obj (object 2)) v e) (there owning_still (object 2) refl)
    | inr z ↦ absurd z
  ]
])

pub closes_more : kept (close_result (kept lone_owner) 0 (object 1)) ≡ kept (close_result lone_owner 0 (object 1)) → ⊥
closes_more e = different slot
  where
    slot : Some (Obj (object 2)) ≡ Some value.None
    slot = ap (λ (s : State). slot_at s.slots 1) e

    different : Some (Obj (object 2)) ≡ Some value.None → ⊥
    different k = cc
