-- A unit that comes into pools from another store, with all its names.
use Rattle.std.proofs.Common.{◌≡◌, ℕ, is_some, ◌++◌, List, [], Option, Some, None, refl, ap, sym, ◌∙◌}
use Rattle.lf_base.specs.declared.ids.ObjId.{ObjId}
use Rattle.lf_base.specs.declared.values.Owner.{Owner}
use Rattle.lf_graph.specs.Parts.{AllNew}
use Rattle.lf_graph.specs.StoredRows.{CountedRow, HasRow, IsNewName, SameByOwner, is_under, row_named, rows_of, rows_outside}
use Rattle.lf_graph.proofs.Stores.Reordered.{rows_append}
use Rattle.lf_graph.proofs.Stores.RowsByOwner.{under_its_owner}
use Rattle.lf_graph.proofs.Stores.Walks.{no_name_filter}
use Rattle.slab.specs.Slab.{Slab, get}
use Rattle.lf_poolstore.specs.declared.name_index.NameIndex.{NameIndex}
use Rattle.lf_poolstore.specs.declared.place.Place.{Place}
use Rattle.lf_poolstore.specs.declared.pools.Pools.{Pools}
use Rattle.lf_poolstore.specs.Index.{place_at}
use Rattle.lf_poolstore.specs.PoolViews.{pool_number, pool_rows}
use Rattle.lf_poolstore.specs.Pools.{AddsUnit, ArePools, Numbers, UnitsAt, led_by, place_of, rows_by, slot_rows, unit_of}
use Rattle.lf_poolstore.specs.Units.{IsWhole, StandsAt, UnitView, place_in}
use Rattle.lf_poolstore.proofs.AddedUnits.{added_kept, added_rows}
use Rattle.lf_poolstore.proofs.PoolFacts.{same_unit, shown}
use Rattle.lf_poolstore.proofs.PoolRows.{found_there, shown_rows}
use Rattle.lf_poolstore.proofs.TakenUnits.{none_taken}

-- a new name is one of the same rows in another order too
pub still_new : (old new : List CountedRow) (o : ObjId) → SameByOwner new old → IsNewName old o → IsNewName new o
still_new old new o same n = go (row_named new o) refl where
  go : (t : Option CountedRow) → row_named new o ≡ t → t ≡ None
  go None e = refl
  go (Some c) e =
      let w = (c.row).owner in
      let there : row_named (rows_of w new) o ≡ Some c = under_its_owner new o c e in
      let none : row_named (rows_of w new) o ≡ None = ap (λ rows. row_named rows o) (same w) ∙ no_name_filter (is_under w) old o n in
      absurd (cc (there, none))

-- ---- an owner without rows whose unit is taken
module _ (v : Owner) (old mid : List CountedRow) (out : SameByOwner mid (rows_outside v old)) (empty : rows_of v old ≡ []) where
  pub emptied : SameByOwner mid old
  emptied w = out w ∙ sym (none_taken v old empty w)

  pub emptied_more : (rows now : List CountedRow) → SameByOwner now (mid ++ rows) → SameByOwner now (old ++ rows)
  emptied_more rows now same w = same w ∙ rows_append w mid rows ∙ ap (λ t. t ++ rows_of w rows) (emptied w) ∙ sym (rows_append w old rows)

  pub emptied_new : (part : List CountedRow) → AllNew part old → AllNew part mid
  emptied_new part new o h = still_new old mid o emptied (new o h)

-- ---- the index after a unit's names came
module _ (index : ObjId → Option Place) (numbers : Numbers) (at : UnitsAt) (is : ArePools index numbers at) (rows : List CountedRow) (shown : (w : Owner) → rows_of w rows ≡ rows_by (unit_of numbers at w))
    (v : UnitView) (whole : IsWhole v) (new : AllNew v.rows rows) (n : ℕ) (led : ObjId → Option Place) (is_led : (q : ObjId) → led q ≡ led_by n (place_in v q) (index q)) where
  pub this_led : (r : ObjId) (x : ℕ) → StandsAt v x r → led r ≡ Some (place_of n x)
  this_led r x s = is_led r ∙ ap (λ t. led_by n t (index r)) s

  pub that_led : (m : ℕ) (t : UnitView) (r : ObjId) (x : ℕ) → at m ≡ Some t → StandsAt t x r → led r ≡ Some (place_of m x)
  that_led m t r x e s = is_led r ∙ ap (λ p. led_by n p (index r)) (go (place_in v r) refl) ∙ is.indexed m t r x e s where
    here : HasRow rows r
    here = ap is_some (found_there index numbers at is rows shown r m t x e s) ∙ (is.whole m t e).placed r ∙ ap is_some s

    go : (p : Option ℕ) → place_in v r ≡ p → p ≡ None
    go None f = refl
    go (Some y) f = let none = new r (whole.placed r ∙ ap is_some f) in let h = sym (ap is_some none) ∙ here in absurd (cc h)

-- pools with one more unit, whose rows have their places after room was made for them
module _ (p : Pools) (room led : NameIndex) (stays : (q : ObjId) → place_at room q ≡ place_at p.index q) (next : Numbers) (units : Slab UnitView) (n : ℕ) (u v : UnitView) (adds : AddsUnit (pool_number p) next (get p.units) (get units) n v)
    (here : get units n ≡ Some u) (set : (q : ObjId) → place_at led q ≡ led_by n (place_in u q) (place_at room q)) (free : pool_number p v.owner ≡ None) (whole : IsWhole v) (new : AllNew v.rows (pool_rows p)) where
  leads : (q : ObjId) → place_at led q ≡ led_by n (place_in v q) (place_at p.index q)
  leads q = set q ∙ ap (λ (w : UnitView). led_by n (place_in w q) (place_at room q)) (same_unit u v (sym here ∙ adds.here)) ∙ ap (led_by n (place_in v q)) (stays q)

  pub put_kept : ArePools (place_at led) next (get units)
  put_kept = added_kept (place_at p.index) (pool_number p) next (get p.units) (get units) p.kept n v adds free whole (place_at led)
      (this_led (place_at p.index) (pool_number p) (get p.units) p.kept (pool_rows p) (shown p) v whole new n (place_at led) leads)
      (that_led (place_at p.index) (pool_number p) (get p.units) p.kept (pool_rows p) (shown p) v whole new n (place_at led) leads)

  pub put_rows : SameByOwner (slot_rows units.slots) (pool_rows p ++ v.rows)
  put_rows = added_rows (place_at p.index) (pool_number p) next (get p.units) (get units) p.kept n v adds free whole (pool_rows p) (slot_rows units.slots) (shown p) (shown_rows (place_at led) next units.slots put_kept)
