-- What the index and the units of pools tell of their rows.
use Rattle.std.proofs.Common.{◌≡◌, ℕ, Option, Some, None, refl, ap, sym, ◌∙◌, subst}
use Rattle.std.specs.Option.{IsSome}
use Rattle.slab.specs.Slab.{get}
use Rattle.lf_base.specs.declared.ids.ObjId.{ObjId}
use Rattle.lf_base.specs.declared.values.Owner.{Owner}
use Rattle.lf_graph.specs.StoredRows.{HasRow, owner_at, owner_by, row_named, rows_beside, rows_of}
use Rattle.lf_poolstore.specs.declared.place.Place.{Place}
use Rattle.lf_poolstore.specs.declared.pools.Pools.{Pools}
use Rattle.lf_poolstore.specs.Index.{place_at}
use Rattle.lf_poolstore.specs.Places.{place_or}
use Rattle.lf_poolstore.specs.Pools.{Numbers, number_of, place_of, rows_by, unit_by, unit_of}
use Rattle.lf_poolstore.specs.PoolViews.{pool_rows}
use Rattle.lf_poolstore.specs.Units.{StandsAt, UnitView}
use Rattle.lf_poolstore.proofs.PoolRows.{Stood, beside_there, found_there, lost, owner_there, shown_rows, stood, unit_there}

abbrev pub numbers_in : Pools → Numbers
numbers_in p = number_of p.owners.local p.owners.frozen p.owners.regions

pub same_unit : (x y : UnitView) → Some x ≡ Some y → x ≡ y
same_unit x y e = ap (or x) e where
  or : UnitView → Option UnitView → UnitView
  or z None = z
  or z (Some v) = v

module _ (p : Pools) where
  -- the rows of an owner are those of its unit
  pub shown : (w : Owner) → rows_of w (pool_rows p) ≡ rows_by (unit_of (numbers_in p) (get p.units) w)
  shown = shown_rows (place_at p.index) (numbers_in p) p.units.slots p.kept

  -- the unit of a number that an owner has
  pub numbered : (w : Owner) (n : ℕ) → numbers_in p w ≡ Some n → (u : UnitView) × (get p.units n ≡ Some u) × (u.owner ≡ w)
  numbered w n e = unit_there (place_at p.index) (numbers_in p) (get p.units) p.kept w n e

  pub numbered_rows : (w : Owner) (n : ℕ) (u : UnitView) → numbers_in p w ≡ Some n → get p.units n ≡ Some u → rows_of w (pool_rows p) ≡ u.rows
  numbered_rows w n u e f = shown w ∙ ap (λ t. rows_by (unit_by (get p.units) t)) e ∙ ap rows_by f

  pub unnumbered_rows : (w : Owner) → numbers_in p w ≡ None → rows_of w (pool_rows p) ≡ rows_by None
  unnumbered_rows w e = shown w ∙ ap (λ t. rows_by (unit_by (get p.units) t)) e

  module _ (o : ObjId) (q : Place) (is : q ≡ place_or (place_at p.index o)) where
    -- where the place isn't one of a row of that name, there is none
    pub no_row : ((u : UnitView) → get p.units q.unit ≡ Some u → StandsAt u q.row o → ⊥) → None ≡ owner_at (pool_rows p) o
    no_row k = sym (ap owner_by (lost (place_at p.index) (numbers_in p) (get p.units) p.kept (pool_rows p) shown o (λ n x u e f s.
        let there : q ≡ place_of n x = is ∙ ap place_or e in
        k u (ap (λ (t : Place). get p.units t.unit) there ∙ f) (subst (λ (t : Place). StandsAt u t.row o) (sym there) s))))

    module _ (u : UnitView) (at : get p.units q.unit ≡ Some u) (stands : StandsAt u q.row o) where
      pub place_owner : Some u.owner ≡ owner_at (pool_rows p) o
      place_owner = sym (owner_there (place_at p.index) (numbers_in p) (get p.units) p.kept (pool_rows p) shown o q.unit u q.row at stands)

      pub place_found : row_named (pool_rows p) o ≡ row_named u.rows o
      place_found = found_there (place_at p.index) (numbers_in p) (get p.units) p.kept (pool_rows p) shown o q.unit u q.row at stands

      pub place_beside : rows_beside (pool_rows p) o ≡ u.rows
      place_beside = beside_there (place_at p.index) (numbers_in p) (get p.units) p.kept (pool_rows p) shown o q.unit u q.row at stands

    module _ (h : HasRow (pool_rows p) o) where
      pub stood_at : Stood (place_at p.index) (get p.units) (pool_rows p) o
      stood_at = stood (place_at p.index) (numbers_in p) (get p.units) p.kept (pool_rows p) shown o h

      there : q ≡ place_of stood_at.number stood_at.row
      there = is ∙ ap place_or stood_at.place

      pub place_unit : get p.units q.unit ≡ Some stood_at.unit
      place_unit = ap (λ (t : Place). get p.units t.unit) there ∙ stood_at.unit_is

      pub place_some : IsSome (get p.units q.unit)
      place_some = subst IsSome (sym place_unit) refl

      -- the unit of the place has the row at the place
      pub place_stands : (u : UnitView) → get p.units q.unit ≡ Some u → StandsAt u q.row o
      place_stands u e =
          let same : stood_at.unit ≡ u = same_unit stood_at.unit u (sym place_unit ∙ e) in
          subst (λ (v : UnitView). StandsAt v q.row o) same (subst (λ (t : Place). StandsAt stood_at.unit t.row o) (sym there) stood_at.stands)
