-- A row that goes, and its name with it.
use Rattle.std.proofs.Common.{◌≡◌, ℕ, true, false, cond, ◌≤◌, is_some, slice_set, Some, None, refl, ap, sym, ◌∙◌, subst, arith}
use Rattle.std.specs.Prelude.{eqb}
use Rattle.slab.specs.Slab.{get, with_value}
use Rattle.lf_base.specs.declared.ids.ObjId.{ObjId}
use Rattle.lf_base.specs.declared.values.Owner.{Owner}
use Rattle.lf_base.specs.Names.{same_name}
use Rattle.lf_base.proofs.NameLemmas.SameNames.{same_name_is}
use Rattle.lf_graph.specs.RowChanges.{without_row}
use Rattle.lf_graph.specs.StoredRows.{HasRow, SameByOwner}
use Rattle.lf_poolstore.specs.declared.name_index.NameIndex.{NameIndex}
use Rattle.lf_poolstore.specs.declared.place.Place.{Place}
use Rattle.lf_poolstore.specs.declared.pools.Pools.{Pools}
use Rattle.lf_poolstore.specs.Index.{index_room, place_at}
use Rattle.lf_poolstore.specs.Places.{place_or}
use Rattle.lf_poolstore.specs.Pools.{ArePools, place_of, slot_rows, spare_by, unit_of}
use Rattle.lf_poolstore.specs.PoolViews.{pool_rows, pool_spare}
use Rattle.lf_poolstore.specs.Units.{IsWhole, StandsAt, UnitView, place_in}
use Rattle.lf_poolstore.proofs.PoolChanges.{changed_room, changed_rows, kept_by, slot_set, stands_alone, without_turns}
use Rattle.lf_poolstore.proofs.PoolFacts.{numbers_in, place_stands, shown}
use Rattle.lf_poolstore.proofs.PoolRows.{shown_rows}
use Rattle.lf_poolstore.proofs.PoolSteps.{fewer_places}

module _ (p : Pools) (o : ObjId) (q : Place) (is : q ≡ place_or (place_at p.index o)) (h : HasRow (pool_rows p) o) (led : NameIndex) (others : (r : ObjId) → same_name o r ≡ false → place_at led r ≡ place_at p.index r)
    (u v : UnitView) (at : get p.units q.unit ≡ Some u) (owner : v.owner ≡ u.owner) (whole : IsWhole v) (places : (r : ObjId) → place_in v r ≡ cond (same_name o r) None (place_in u r)) where
  stands : StandsAt u q.row o
  stands = place_stands p o q is h u at

  led_this : (r : ObjId) (x : ℕ) → StandsAt v x r → place_at led r ≡ Some (place_of q.unit x)
  led_this r x s = elim (same_name o r) as (λ b. same_name o r ≡ b → place_at led r ≡ Some (place_of q.unit x)) [
    | true ↦ λ k. let e = sym s ∙ places r ∙ ap (λ b. cond b None (place_in u r)) k in absurd (cc e)
    | false ↦ λ k. others r k ∙ p.kept.indexed q.unit u r x at (fewer_places o u v places r x s)
  ] refl

  -- the row stands in no other unit
  nowhere : (m : ℕ) (t : UnitView) (x : ℕ) → eqb q.unit m ≡ false → get p.units m ≡ Some t → StandsAt t x o → ⊥
  nowhere m t x d e s =
      let none = stands_alone (place_at p.index) (numbers_in p) (get p.units) p.kept q.unit u o q.row at stands m t d e in
      let some = sym (ap is_some none) ∙ (p.kept.whole m t e).placed o ∙ ap is_some s in
      cc some

  led_that : (m : ℕ) (t : UnitView) (r : ObjId) (x : ℕ) → eqb q.unit m ≡ false → get p.units m ≡ Some t → StandsAt t x r → place_at led r ≡ Some (place_of m x)
  led_that m t r x d e s = elim (same_name o r) as (λ b. same_name o r ≡ b → place_at led r ≡ Some (place_of m x)) [
    | true ↦ λ k. absurd (nowhere m t x d e (subst (λ z. StandsAt t x z) (sym (same_name_is o r k)) s))
    | false ↦ λ k. others r k ∙ p.kept.indexed m t r x e s
  ] refl

  pub gone_kept : ArePools (place_at led) (numbers_in p) (get (with_value p.units q.unit v))
  gone_kept = kept_by (place_at p.index) (numbers_in p) (get p.units) (get (with_value p.units q.unit v)) p.kept q.unit u v at (slot_set p.units.slots q.unit u v at) owner whole (place_at led) led_this led_that

  pub gone_rows : v.rows ≡ without_row u.rows o → SameByOwner (slot_rows (slice_set p.units.slots q.unit (Some v))) (without_row (pool_rows p) o)
  gone_rows rows_are =
      changed_rows (place_at p.index) (numbers_in p) (get p.units) (get (with_value p.units q.unit v)) p.kept q.unit u v at (slot_set p.units.slots q.unit u v at) owner whole
      o q.row stands (λ rows. without_row rows o) (without_turns o) rows_are (pool_rows p) (slot_rows (slice_set p.units.slots q.unit (Some v))) (shown p)
      (shown_rows (place_at led) (numbers_in p) (slice_set p.units.slots q.unit (Some v)) gone_kept)

  pub gone_room : index_room p.index ≤ index_room led → u.spare ≤ v.spare → (w : Owner) → pool_spare p w ≤ spare_by (index_room led) (unit_of (numbers_in p) (get (with_value p.units q.unit v)) w)
  gone_room names l w =
      let r = changed_room (place_at p.index) (numbers_in p) (get p.units) (get (with_value p.units q.unit v)) p.kept q.unit u v at (slot_set p.units.slots q.unit u v at) owner whole 0 (index_room p.index) (index_room led) (omega (arith, names)) (omega (arith, l)) w in
      omega (arith, r)
