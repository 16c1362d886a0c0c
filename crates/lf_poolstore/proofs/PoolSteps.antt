-- A call on the unit of a row, and what it makes of the pools.
use Rattle.std.proofs.Common.{◌≡◌, ℕ, Bool, true, false, cond, min, ◌+◌, ◌≤◌, List, slice_set, Some, None, ap, sym, ◌∙◌, arith}
use Rattle.std.specs.Map.{lookup}
use Rattle.slab.specs.Slab.{get, with_value}
use Rattle.lf_base.specs.declared.ids.ObjId.{ObjId}
use Rattle.lf_base.specs.declared.values.Owner.{Owner}
use Rattle.lf_base.specs.Names.{same_name}
use Rattle.lf_graph.specs.StoredRows.{CountedRow, HasRow, SameByOwner, owner_at}
use Rattle.lf_poolstore.specs.declared.place.Place.{Place}
use Rattle.lf_poolstore.specs.declared.pools.Pools.{Pools}
use Rattle.lf_poolstore.specs.Index.{index_room, place_at}
use Rattle.lf_poolstore.specs.Places.{place_or}
use Rattle.lf_poolstore.specs.Pools.{ArePools, slot_rows, spare_by, unit_by, unit_of}
use Rattle.lf_poolstore.specs.PoolViews.{pool_rows, pool_spare}
use Rattle.lf_poolstore.specs.Units.{IsWhole, StandsAt, UnitView, place_in}
use Rattle.lf_poolstore.proofs.PoolChanges.{Turning, changed_kept, changed_room, changed_rows, slot_set}
use Rattle.lf_poolstore.proofs.PoolFacts.{numbers_in, place_owner, place_stands, place_unit, shown}
use Rattle.lf_poolstore.proofs.PoolRows.{shown_rows}

module _ (p : Pools) (o : ObjId) (q : Place) (is : q ≡ place_or (place_at p.index o)) (h : HasRow (pool_rows p) o) where
  -- the index leads to a unit
  pub no_unit : get p.units q.unit ≡ None → ⊥
  no_unit e = let s = place_unit p o q is h in cc (s, e)

  module _ (u v : UnitView) (at : get p.units q.unit ≡ Some u) (owner : v.owner ≡ u.owner) (whole : IsWhole v) (fewer : (r : ObjId) (x : ℕ) → StandsAt v x r → StandsAt u x r) where
    pub step_kept : ArePools (place_at p.index) (numbers_in p) (get (with_value p.units q.unit v))
    step_kept = changed_kept (place_at p.index) (numbers_in p) (get p.units) (get (with_value p.units q.unit v)) p.kept q.unit u v at (slot_set p.units.slots q.unit u v at) owner whole fewer

    pub step_rows : (f : List CountedRow → List CountedRow) → Turning f o → v.rows ≡ f u.rows → SameByOwner (slot_rows (slice_set p.units.slots q.unit (Some v))) (f (pool_rows p))
    step_rows f turning rows_are =
        changed_rows (place_at p.index) (numbers_in p) (get p.units) (get (with_value p.units q.unit v)) p.kept q.unit u v at (slot_set p.units.slots q.unit u v at) owner whole
        o q.row (place_stands p o q is h u at) f turning rows_are (pool_rows p) (slot_rows (slice_set p.units.slots q.unit (Some v))) (shown p)
        (shown_rows (place_at p.index) (numbers_in p) (slice_set p.units.slots q.unit (Some v)) step_kept)

    pub step_room : (k : ℕ) → u.spare ≤ v.spare + k → (w : Owner) → pool_spare p w ≤ spare_by (index_room p.index) (unit_of (numbers_in p) (get (with_value p.units q.unit v)) w) + k
    step_room k l = changed_room (place_at p.index) (numbers_in p) (get p.units) (get (with_value p.units q.unit v)) p.kept q.unit u v at (slot_set p.units.slots q.unit u v at) owner whole k (index_room p.index) (index_room p.index) (omega arith) l

    pub step_room_none : u.spare ≤ v.spare → (w : Owner) → pool_spare p w ≤ spare_by (index_room p.index) (unit_of (numbers_in p) (get (with_value p.units q.unit v)) w)
    step_room_none l w = let r = step_room 0 (omega (arith, l)) w in omega (arith, r)

  -- the room under the owner of a row that stands in a unit
  pub unit_spare : (u : UnitView) → get p.units q.unit ≡ Some u → (n : ℕ) → ((w : Owner) → owner_at (pool_rows p) o ≡ Some w → n ≤ pool_spare p w) → n ≤ u.spare
  unit_spare u at n room =
      let l = room u.owner (sym (place_owner p o q is u at (place_stands p o q is h u at))) in
      let e : pool_spare p u.owner ≡ min (index_room p.index) u.spare =
      ap (λ t. spare_by (index_room p.index) (unit_by (get p.units) t)) (p.kept.owned q.unit u at) ∙ ap (spare_by (index_room p.index)) at in
      omega (arith, l, e)

-- a name less
pub fewer_places : (o : ObjId) (u v : UnitView) → ((r : ObjId) → place_in v r ≡ cond (same_name o r) None (place_in u r)) → (r : ObjId) (x : ℕ) → StandsAt v x r → StandsAt u x r
fewer_places o u v e r x s = go (same_name o r) (sym (e r) ∙ s) where
  go : (b : Bool) → cond b None (place_in u r) ≡ Some x → place_in u r ≡ Some x
  go true k = cc
  go false k = k

-- the same places
pub same_places : (u v : UnitView) → v.places ≡ u.places → (r : ObjId) (x : ℕ) → StandsAt v x r → StandsAt u x r
same_places u v e r x s = sym (ap (lookup (same_name r)) e) ∙ s
