-- What a store and a table tell of the state whose edges they count.
use Rattle.std.proofs.Common.{Bool, List, Some, ap, arith, eqb, false, ltb, not, refl, suc, sym, true, zero, ℕ, ◌&&◌, ◌+◌, ◌∙◌, ◌≡◌}
use Rattle.lf_base.specs.declared.ids.ObjId.{ObjId}
use Rattle.lf_base.specs.declared.values.Owner.{Owner}
use Rattle.lf_base.specs.declared.values.Owner.TheVariants.{Frozen, In}
use Rattle.lf_base.specs.Losses.{is_held}
use Rattle.lf_base.specs.Names.{same_name}
use Rattle.lf_base.specs.Owners.{is_bridge, is_in, owner_in}
use Rattle.lf_base.specs.Ownership.{is_owning, owning_edges}
use Rattle.lf_base.specs.PlainState.{State}
use Rattle.lf_base.specs.WalkCounts.{borrowed, refs}
use Rattle.lf_base.proofs.NameLemmas.SameNames.{same_name_itself}
use Rattle.lf_base.specs.Edges.{Edge, edges}
use Rattle.lf_domain.specs.Counts.{Counts}
use Rattle.lf_domain.proofs.EdgeTests.{any_counts, some_of}
use Rattle.lf_domain.proofs.NearCounts.{from_near}
use Rattle.lf_domain.proofs.StoreEdges.{owned_has_row, owner_told}
use Rattle.lf_graph.specs.StoredRows.{AreRowsOf, CountedRow, HasRow, owner_at, refs_at}
use Rattle.lf_laws.proofs.Losses.CountsFall.{positive_test}
use Rattle.lf_laws.proofs.Rows.RowsByName.{row_of}
use Rattle.lf_regions.specs.declared.region.Region.{Region}
use Rattle.lf_regions.specs.Regions.{has_region}
use Rattle.lf_settle.specs.LostEdges.{is_bare}
use Rattle.lf_settle.specs.SettledStates.{IsCounted}

no_zero_is : (b : ℕ) → eqb (suc b) 0 ≡ false
no_zero_is b = grind arith

-- that one of two numbers is no 0
neither : (a b : ℕ) → (not (some_of a) && eqb b 0) ≡ not (ltb 0 (a + b))
neither zero zero = refl
neither zero (suc b) = no_zero_is b ∙ sym (ap not (positive_test (0 + suc b) (omega arith)))
neither (suc a) b = sym (ap not (positive_test (suc a + b) (omega arith)))

not_held : (b : Bool) → not b ≡ true → b ≡ false
not_held false e = refl
not_held true e = cc

held : (b : Bool) → not b ≡ false → b ≡ true
held true e = refl
held false e = cc

pub bridge_itself : (s : State) (r : ObjId) → owner_in s.rows r ≡ Some (In r) → is_bridge s.rows r ≡ true
bridge_itself s r h = ap (is_in r) h ∙ same_name_itself r

module _ (rows : List CountedRow) (regions : List Region) (s : State) (c : IsCounted rows regions s) where
  pub are_rows : AreRowsOf rows s.rows
  are_rows = (c.counts.store).rows

  pub all_counts : Counts rows regions s.rows (edges s)
  all_counts = from_near s c.well_formed rows regions c.counts

  pub owner_is_told : (o : ObjId) → owner_at rows o ≡ owner_in s.rows o
  owner_is_told o = sym (owner_told rows s.rows o are_rows)

  pub row_is_there : (o : ObjId) (w : Owner) → owner_in s.rows o ≡ Some w → HasRow rows o
  row_is_there o w h = owned_has_row rows o w (owner_is_told o ∙ h)

  pub refs_told : (o : ObjId) (w : Owner) → owner_in s.rows o ≡ Some w → refs_at rows o ≡ refs s o
  refs_told o w h = (all_counts.store).refs o (row_is_there o w h)

  pub bridge_told : (o r : ObjId) → owner_in s.rows o ≡ Some (In r) → is_bridge s.rows r ≡ true
  bridge_told o r h = bridge_itself s r (c.well_formed.bridge o r h)

  pub region_told : (o r : ObjId) → owner_in s.rows o ≡ Some (In r) → has_region regions r ≡ true
  region_told o r h = (c.counts.table).regions r ∙ bridge_told o r h

  -- the table shows neither owner nor borrow of a region exactly where it isn't held
  pub bare_told : (r : ObjId) → is_bridge s.rows r ≡ true → is_bare regions r ≡ not (is_held s r)
  bare_told r b =
      (λ i. not ((all_counts.table).owned r b i) && eqb ((all_counts.table).borrowed r b i) 0)
      ∙ ap (λ a. not a && eqb (borrowed s r) 0) (any_counts (λ (e : Edge). is_owning s.rows e.from r && same_name e.to r) (edges s))
      ∙ neither (owning_edges s r) (borrowed s r)

  pub bare_is_not_held : (r : ObjId) → is_bridge s.rows r ≡ true → is_bare regions r ≡ true → is_held s r ≡ false
  bare_is_not_held r b e = not_held (is_held s r) (sym (bare_told r b) ∙ e)

  pub else_is_held : (r : ObjId) → is_bridge s.rows r ≡ true → is_bare regions r ≡ false → is_held s r ≡ true
  else_is_held r b e = held (is_held s r) (sym (bare_told r b) ∙ e)

  pub not_held_is_bare : (r : ObjId) → is_bridge s.rows r ≡ true → is_held s r ≡ false → is_bare regions r ≡ true
  not_held_is_bare r b e = bare_told r b ∙ ap not e

  -- the rows are mutable
  pub no_frozen_row : (o : ObjId) → owner_in s.rows o ≡ Some Frozen → ⊥
  no_frozen_row o h = let r = row_of s.rows o Frozen h in c.well_formed.mutable r.row r.mem r.owner
