-- A field that is taken: what it is refused for, and what the parts keep.
use Rattle.std.proofs.Common.{List, None, Option, Some, [], ap, arith, cond, false, is_some, length, map, refl, sym, true, ℕ, ◌*◌, ◌+◌, ◌∙◌, ◌≡◌, ◌≤◌, ◌||◌}
use Rattle.std.proofs.lemmas.List.{length-map}
use Rattle.lf_base.specs.declared.faults.Fault.TheVariants.{FrozenWrite, NoField}
use Rattle.lf_base.specs.declared.ids.ObjId.{ObjId}
use Rattle.lf_base.specs.declared.values.Key.{Key}
use Rattle.lf_base.specs.declared.values.Owner.{Owner}
use Rattle.lf_base.specs.declared.values.Value.{Value}
use Rattle.lf_base.specs.Losses.{Loses}
use Rattle.lf_base.specs.Owners.{has_row, or_frozen, owner_in, row_at, row_owner}
use Rattle.lf_base.specs.PlainChanges.{with_slots}
use Rattle.lf_base.specs.PlainState.{Row, State}
use Rattle.lf_base.specs.TakeResult.{drop_field, row_field, take_refusal, take_refusal_by, take_result}
use Rattle.lf_base.specs.WellFormed.{SlotMayHold, from_near}
use Rattle.lf_base.specs.WriteResult.{is_at}
use Rattle.lf_domain.proofs.StoreEdges.{field_told, owner_told}
use Rattle.lf_graph.specs.StoredRows.{AreRowsOf, CountedRow, field_value_at, owner_at}
use Rattle.lf_laws.proofs.Edges.Cells.{cells_take}
use Rattle.lf_laws.proofs.Rows.MappedRows.{mapped_owner}
use Rattle.lf_regions.specs.declared.region.Region.{Region}
use Rattle.lf_settle.specs.Drops.{CanEmpty, SameCapacity}
use Rattle.lf_settle.specs.SettledStates.{IsCounted}
use Rattle.lf_settle.specs.WorkLists.{WorkList}
use Rattle.lf_heap.specs.Following.{Follows}
use Rattle.lf_heap.specs.Heaps.{HasParts}
use Rattle.lf_heap.proofs.Fields.FieldReads.{no_row_at}
use Rattle.lf_heap.proofs.States.Settling.{room_for_all}
use Rattle.lf_heap.proofs.States.Steps.{losses_follow}
use Rattle.lf_heap.proofs.States.StoredStates.{Reached, reached}

-- rows of the same owners let a slot hold the same
pub still_held : (s : State) (rows : List Row) (v : Value) → ((o : ObjId) → owner_in rows o ≡ owner_in s.rows o) → SlotMayHold s v → SlotMayHold (record s { rows = rows }) v
still_held s rows v same may = record {
  object_there = λ o m. ap (λ w. from_near (or_frozen (has_row s.given o || has_row s.own o) w)) (same o) ∙ may.object_there o m;
  cown_numbered = may.cown_numbered;
}

abbrev taken : ObjId → Key → Row → Row
taken o k r = cond (is_at o r) (record r { fields = drop_field r.fields k }) r

module _ (rows : List CountedRow) (regions : List Region) (most : ℕ) (s : State) (h : HasParts rows regions most s) (o : ObjId) (k : Key) where
  abbrev a : AreRowsOf rows s.rows
  a = (((h.counted).counts).store).rows

  abbrev t : State
  t = take_result s o k

  -- ---- what it is refused for
  pub no_row_refused : None ≡ owner_at rows o → take_refusal s o k ≡ Some FrozenWrite
  no_row_refused e = ap (λ r. take_refusal_by r k) (no_row_at s.rows o (owner_told rows s.rows o a ∙ sym e))

  by_field : (w : Option Owner) (r : Option Row) (v : Option Value) → owner_in s.rows o ≡ w → row_at s.rows o ≡ r → is_some w ≡ true → row_field r k ≡ v
      → take_refusal_by r k ≡ cond (is_some v) None (Some NoField)
  by_field w None v own at there e = absurd (let z : true ≡ false = sym there ∙ ap is_some (sym own ∙ ap row_owner at) in cc)
  by_field w (Some r) v own at there e = ap (λ x. cond (is_some x) None (Some NoField)) e

  pub judged_by_field : (w : Owner) (v : Option Value) → Some w ≡ owner_at rows o → v ≡ field_value_at rows o k → take_refusal s o k ≡ cond (is_some v) None (Some NoField)
  judged_by_field w v own e = by_field (Some w) (row_at s.rows o) v (owner_told rows s.rows o a ∙ sym own) refl refl (sym (field_told rows s.rows o k a) ∙ sym e)

  -- ---- what is asked for
  pub can_empty : (w : Owner) (work : WorkList) → Some w ≡ owner_at rows o → 2 * length s.rows + 1 ≤ work.spare → CanEmpty rows regions work s o w
  can_empty w work own room = record {
    can = record { counted = h.counted; room = room_for_all s work.spare (omega (arith, room)) };
    here = owner_told rows s.rows o a ∙ sym own;
  }

  -- ---- and what comes
  taken_name : (r : Row) → (taken o k r).name ≡ r.name
  taken_name r = elim (is_at o r) as (λ b. (cond b (record r { fields = drop_field r.fields k }) r).name ≡ r.name) [ true ↦ refl | false ↦ refl ]

  taken_owner : (r : Row) → (taken o k r).owner ≡ r.owner
  taken_owner r = elim (is_at o r) as (λ b. (cond b (record r { fields = drop_field r.fields k }) r).owner ≡ r.owner) [ true ↦ refl | false ↦ refl ]

  pub held_after : (v : Value) → SlotMayHold s v → SlotMayHold t v
  held_after v may = still_held s (map (taken o k) s.rows) v (mapped_owner (taken o k) taken_name taken_owner s.rows) may

  pub take_reached : (next : List CountedRow) (table : List Region) → IsCounted next table t → Reached next table most t
  take_reached next table counted = reached next table most t (record { counted = counted; cells = omega (arith, cells_take (with_slots s []) o k, h.cells); few = h.few; slots = h.slots })

  pub take_follows : (next : List CountedRow) (table : List Region) (old new : WorkList) → IsCounted next table t → Loses s t old.suspects new.suspects → SameCapacity old new
      → length new.suspects ≤ length old.suspects + 1 → Follows s t old new 1
  take_follows next table old new counted loses sum one =
      losses_follow s t old new (h.counted).well_formed counted.well_formed loses sum one (length-map s.rows (taken o k))
