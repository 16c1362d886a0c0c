-- The states of the trials of settling are well-formed, and what may be counted, written and unset there.
use Rattle.std.proofs.Common.{List, Some, [], arith, cond, false, inl, inr, length, refl, subst, sym, true, ℕ, ◌<◌, ◌^◌, ◌∙◌, ◌∷◌, ◌≡◌, ◌≤◌}
use Rattle.std.specs.Option.{is_some}
use Rattle.lf_base.specs.declared.ids.ObjId.{ObjId}
use Rattle.lf_base.specs.declared.values.Key.{Key}
use Rattle.lf_base.specs.declared.values.Owner.{Owner}
use Rattle.lf_base.specs.declared.values.Owner.TheVariants.{In, Local}
use Rattle.lf_base.specs.declared.values.Value.TheVariants.{Obj}
use Rattle.lf_base.specs.EdgeLists.{SameEdges, near_edges}
use Rattle.lf_base.specs.Edges.{Edge, Field, Slot}
use Rattle.lf_base.specs.Owners.{owner_in, owner_of}
use Rattle.lf_base.specs.PlainChanges.{first_state, object_result}
use Rattle.lf_base.specs.PlainState.{Row, State}
use Rattle.lf_base.specs.WellFormed.{SlotMayHold, WellFormed, from_near}
use Rattle.lf_base.proofs.ListLemmas.Tests.{some_is}
use Rattle.lf_domain.specs.Counts.{Counts, CountsOf, IsDomain}
use Rattle.lf_domain.specs.OneEdge.{MayCountOwner}
use Rattle.lf_domain.proofs.CountedEdges.{same_counts, same_rows_count}
use Rattle.lf_domain.proofs.EdgeTests.{count_cons}
use Rattle.lf_domain.proofs.StoreEdges.{owned_has_row, owner_told}
use Rattle.lf_graph.specs.Room.{OwnerHasRoom, room_for_field}
use Rattle.lf_graph.specs.StoredRows.{AreRowsOf, CountedRow, HasRow, SameByOwner, field_value_at}
use Rattle.lf_laws.proofs.Changes.NewRows.{new_row_keeps}
use Rattle.lf_laws.proofs.Changes.SameOwners.{slots_keep}
use Rattle.lf_laws.proofs.Writes.WriteLaw.{write_law}
use Rattle.lf_regions.specs.declared.region.Region.{Region}
use Rattle.lf_settle.specs.SettledStates.{MayUnset}
use Rattle.lf_settle.specs.WorkLists.{WorkList}
use Rattle.lf_trials.specs.SettledRows.{first, four_edges, half_cycle, key_one, key_zero, local_cycle, object_in_slot, owner_and_child, region_in_cycle, regions_in_slots, second, two_objects}
use Rattle.lf_trials.specs.TwoRegions.{two_regions}
use Rattle.lf_trials.proofs.TwoRegions.{leads_to, well_none, well_two}

there : (s : State) (o : ObjId) → from_near (owner_of s o) ≡ true → SlotMayHold s (Obj o)
there s o e = record {
  object_there = λ p m. elim m [ inl k ↦ subst (λ n. from_near (owner_of s n) ≡ true) k e | inr n ↦ absurd n ];
  cown_numbered = λ c m. absurd m;
}

-- ---- a region with a cycle and a child
slots_whole : WellFormed regions_in_slots
slots_whole = slots_keep two_regions (Some (Obj first) ∷ (Some (Obj second) ∷ [])) well_two (λ v m. elim m [
  | inl e ↦ subst (SlotMayHold two_regions) (some_is (Obj first) v e) (there two_regions first refl)
  | inr n ↦ elim n [
    | inl e ↦ subst (SlotMayHold two_regions) (some_is (Obj second) v e) (there two_regions second refl)
    | inr z ↦ absurd z
  ]
])

cycle_whole : WellFormed region_in_cycle
cycle_whole = (write_law regions_in_slots slots_whole first key_zero (Obj first) (there regions_in_slots first refl) (In first) refl).0 refl

pub owner_is_whole : WellFormed owner_and_child
owner_is_whole = (write_law region_in_cycle cycle_whole first key_one (Obj second) (there region_in_cycle second refl) (In first) refl).0 refl

-- an edge from the first bridge to a bridge may be counted
pub inner_more : (bridge : ObjId) → owner_in two_regions.rows bridge ≡ Some (In bridge) → (rows : List CountedRow) (regions : List Region) (es : List Edge) → Counts rows regions two_regions.rows es → length es < 2 ^ 63
    → MayCountOwner rows regions two_regions.rows es (Field first) (bridge ∷ []) (Some first)
inner_more bridge is rows regions es c few = record { counts = c; bridges = well_two.bridge; lies = refl; leads = leads_to bridge is (Some first); few = few }

same_four : SameEdges four_edges (near_edges owner_and_child)
same_four p =
    let a : Edge = record { from = Slot; to = first } in
    let b : Edge = record { from = Slot; to = second } in
    let c : Edge = record { from = Field first; to = first } in
    let d : Edge = record { from = Field first; to = second } in
    omega (
      arith,
      count_cons p d (c ∷ (b ∷ (a ∷ []))),
      count_cons p c (b ∷ (a ∷ [])),
      count_cons p b (a ∷ []),
      count_cons p a [],
      count_cons p a (b ∷ (c ∷ (d ∷ []))),
      count_cons p b (c ∷ (d ∷ [])),
      count_cons p c (d ∷ []),
      count_cons p d [],
    )

pub owner_counted : (rows : List CountedRow) (regions : List Region) → Counts rows regions owner_and_child.rows four_edges → CountsOf rows regions owner_and_child
owner_counted rows regions = same_counts rows regions owner_and_child.rows four_edges (near_edges owner_and_child) same_four

pub owner_may_go : (rows : List CountedRow) (regions : List Region) (work : WorkList) → CountsOf rows regions owner_and_child → work.suspects ≡ [] → 4 ≤ work.spare
    → MayUnset rows regions work owner_and_child 0 (Some (Obj first))
owner_may_go rows regions work c none room = record {
  can_drop = record { counted = record { counts = c; well_formed = owner_is_whole }; room = room };
  all_stay = refl;
  there = omega arith;
  holds = refl;
  none_yet = none;
}

-- the room for a field of a row, once it is reserved
pub field_room : (rows : List CountedRow) (of : List Row) (o : ObjId) (w : Owner) (k : Key) (spare : Owner → ℕ) → AreRowsOf rows of → owner_in of o ≡ Some w → 1 ≤ spare w → OwnerHasRoom spare rows o (room_for_field rows o k)
field_room rows of o w k spare are here enough u e =
    let is : w ≡ u = some_is w u (sym here ∙ owner_told rows of o are ∙ e) in
    let one : room_for_field rows o k ≤ 1 = elim (is_some (field_value_at rows o k)) as (λ b. cond b 0 1 ≤ 1) [ true ↦ omega arith | false ↦ omega arith ] in
    subst (λ v. room_for_field rows o k ≤ spare v) is (omega (arith, one, enough))

pub row_here : (rows : List CountedRow) (of : List Row) (o : ObjId) (w : Owner) → AreRowsOf rows of → owner_in of o ≡ Some w → HasRow rows o
row_here rows of o w are here = owned_has_row rows o w (sym (owner_told rows of o are) ∙ here)

-- ---- a cycle of local rows
pub one_whole : WellFormed (object_result (first_state 1 []))
one_whole = new_row_keeps (first_state 1 []) Local well_none (inl refl)

pub two_whole : WellFormed two_objects
two_whole = new_row_keeps (object_result (first_state 1 [])) Local one_whole (inl refl)

pub slot_whole : WellFormed object_in_slot
slot_whole = slots_keep two_objects (Some (Obj first) ∷ []) two_whole (λ v m. elim m [
  | inl e ↦ subst (SlotMayHold two_objects) (some_is (Obj first) v e) (there two_objects first refl)
  | inr z ↦ absurd z
])

pub half_whole : WellFormed half_cycle
half_whole = (write_law object_in_slot slot_whole first key_zero (Obj second) (there object_in_slot second refl) Local refl).0 refl

pub local_whole : WellFormed local_cycle
local_whole = (write_law half_cycle half_whole second key_zero (Obj first) (there half_cycle first refl) Local refl).0 refl

-- the domains in which the fields are written
pub slot_domain : (rows new : List CountedRow) (regions : List Region) → SameByOwner new rows → CountsOf rows regions object_in_slot → IsDomain new regions object_in_slot
slot_domain rows new regions same c = record { counts = same_rows_count rows new regions object_in_slot.rows (near_edges object_in_slot) same c; well_formed = slot_whole; few = omega arith }

pub half_domain : (rows new : List CountedRow) (regions : List Region) → SameByOwner new rows → CountsOf rows regions half_cycle → IsDomain new regions half_cycle
half_domain rows new regions same c = record { counts = same_rows_count rows new regions half_cycle.rows (near_edges half_cycle) same c; well_formed = half_whole; few = omega arith }

pub cycle_may_lose_slot : (rows : List CountedRow) (regions : List Region) (work : WorkList) → CountsOf rows regions local_cycle → work.suspects ≡ [] → 4 ≤ work.spare
    → MayUnset rows regions work local_cycle 0 (Some (Obj first))
cycle_may_lose_slot rows regions work c none room = record {
  can_drop = record { counted = record { counts = c; well_formed = local_whole }; room = omega (arith, room) };
  all_stay = refl;
  there = omega arith;
  holds = refl;
  none_yet = none;
}
