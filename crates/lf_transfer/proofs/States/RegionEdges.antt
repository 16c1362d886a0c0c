-- The edges that begin at the rows of a region, counted by its rows.
use Rattle.std.proofs.Common.{Bool, List, Some, [], ap, arith, cond, count_by, false, filter, flat_map, inl, inr, refl, true, ℕ, ◌&&◌, ◌+◌, ◌||◌, ◌∙◌, ◌∷◌, ◌≡◌}
use Rattle.std.proofs.Math.Bool.{or-true}
use Rattle.std.proofs.lemmas.Bool.{or_left}
use Rattle.std.proofs.lemmas.List.Sums.{sum_by-cons}
use Rattle.lf_base.specs.declared.ids.ObjId.{ObjId}
use Rattle.lf_base.specs.declared.ids.CownId.{CownId}
use Rattle.lf_base.specs.declared.values.Owner.{Owner}
use Rattle.lf_base.specs.declared.values.Owner.TheVariants.{Frozen, In, Local}
use Rattle.lf_base.specs.declared.values.Value.{Value}
use Rattle.lf_base.specs.EdgeLists.{near_edges}
use Rattle.lf_base.specs.Edges.{Edge, Field, Source, content_edges, edges, edges_by, row_edges, rows_edges, slot_edges}
use Rattle.lf_base.specs.Names.{same_owner}
use Rattle.lf_base.specs.Owners.{has_row, is_in, owner_in}
use Rattle.lf_base.specs.Ownership.{is_from}
use Rattle.lf_base.specs.PlainState.{Row, State}
use Rattle.lf_base.specs.Sets.{Member}
use Rattle.lf_base.proofs.ListLemmas.Tests.{none_count}
use Rattle.lf_base.proofs.NameLemmas.SameNames.{same_name_flips}
use Rattle.lf_barrier.specs.Descents.{region_targets}
use Rattle.lf_barrier.proofs.Descents.OwnedRegions.{named_here}
use Rattle.lf_domain.specs.Counts.{IsDomain}
use Rattle.lf_domain.proofs.StoreEdges.{owner_told}
use Rattle.lf_graph.specs.StoredRows.{AreRowsOf, CountedRow, is_under, owner_by, plain}
use Rattle.lf_laws.proofs.Dropping.RowsInPlace.{rows_in_place}
use Rattle.lf_laws.proofs.Edges.EdgeParts.{count_app, edges_count, near_count}
use Rattle.lf_laws.proofs.Rows.EdgeSources.{content_begins, slot_begins}
use Rattle.lf_laws.proofs.Rows.InsertedRows.{count_rows}
use Rattle.lf_laws.proofs.Rows.RowEdges.{edge_row}
use Rattle.lf_laws.proofs.Rows.RowsByName.{mem_has}
use Rattle.lf_regions.specs.declared.region.Region.{Region}
use Rattle.lf_transfer.proofs.Walks.References.{row_targets}

in_by_owner : (r : ObjId) (w : Owner) → is_in r (Some w) ≡ same_owner w (In r)
in_by_owner r Local = refl
in_by_owner r Frozen = refl
in_by_owner r (In q) = same_name_flips r q

module _ (of : List Row) (r : ObjId) (p : ObjId → Bool) where
  abbrev pub from_region : Edge → Bool
  from_region e = is_from of r e.from && p e.to

  by_source : (f : Source) (os : List ObjId) → count_by from_region (edges_by f os) ≡ cond (is_from of r f) (count_by p os) 0
  by_source f [] = elim (is_from of r f) as (λ b. count_by from_region (edges_by f []) ≡ cond b (count_by p []) 0) [ true ↦ refl | false ↦ refl ]
  by_source f (o ∷ os) =
      let rest = by_source f os in
      elim (is_from of r f) as (λ b. is_from of r f ≡ b → count_by from_region (edges_by f (o ∷ os)) ≡ cond b (count_by p (o ∷ os)) 0) [
        | true ↦ λ h. omega (
          arith,
          rest,
          ap {B = ℕ} (λ b. cond b (count_by p os) 0) h,
          sum_by-cons (λ (e : Edge). cond (from_region e) 1 0) (record { from = f; to = o }) (edges_by f os),
          ap {B = ℕ} (λ b. cond (b && p o) 1 0) h,
          sum_by-cons (λ q. cond (p q) 1 0) o os,
        )
        | false ↦ λ h. omega (
          arith,
          rest,
          ap {B = ℕ} (λ b. cond b (count_by p os) 0) h,
          sum_by-cons (λ (e : Edge). cond (from_region e) 1 0) (record { from = f; to = o }) (edges_by f os),
          ap {B = ℕ} (λ b. cond (b && p o) 1 0) h,
        )
      ] refl

  by_rows : (cs : List CountedRow) → ((c : CountedRow) → Member c cs → owner_in of (c.row).name ≡ Some ((c.row).owner)) → count_by from_region (rows_edges (plain cs)) ≡ count_by p (flat_map row_targets (filter (is_under (In r)) cs))
  by_rows [] h = refl
  by_rows (c ∷ cs) h =
      let rest = by_rows cs (λ x m. h x (inr m)) in
      let here : is_from of r (Field (c.row).name) ≡ is_under (In r) c = ap (is_in r) (h c (inl refl)) ∙ in_by_owner r (c.row).owner in
      let first : count_by from_region (row_edges c.row) ≡ cond (is_under (In r) c) (count_by p (row_targets c)) 0 = by_source (Field (c.row).name) (row_targets c) ∙ ap (λ b. cond b (count_by p (row_targets c)) 0) here in
      let both : count_by from_region (rows_edges (plain (c ∷ cs))) ≡ count_by from_region (row_edges c.row) + count_by from_region (rows_edges (plain cs)) = count_app from_region (row_edges c.row) (rows_edges (plain cs)) in
      elim (is_under (In r) c) as (λ b. count_by from_region (row_edges c.row) ≡ cond b (count_by p (row_targets c)) 0 → count_by from_region (rows_edges (plain (c ∷ cs))) ≡ count_by p (flat_map row_targets (cond b (c ∷ filter (is_under (In r)) cs) (filter (is_under (In r)) cs)))) [
        | true ↦ λ k. omega (arith, both, rest, k, count_app p (row_targets c) (flat_map row_targets (filter (is_under (In r)) cs)))
        | false ↦ λ k. omega (arith, both, rest, k)
      ] first

module _ (rows : List CountedRow) (regions : List Region) (s : State) (d : IsDomain rows regions s) (r : ObjId) (p : ObjId → Bool) where
  abbrev a : AreRowsOf rows s.rows
  a = ((d.counts).store).rows

  abbrev test : Edge → Bool
  test = from_region s.rows r p

  from_rows : count_by test (rows_edges s.rows) ≡ count_by p (region_targets rows r)
  from_rows = omega (
    arith,
    count_rows test (plain rows) [],
    ap (λ l. count_by test (rows_edges l)) (a).rise,
    by_rows s.rows r p rows (λ c m. owner_told rows s.rows (c.row).name a ∙ ap owner_by (named_here rows c (a).differ m)),
  )

  from_slots : count_by test (slot_edges s.slots) ≡ 0
  from_slots = none_count test (slot_edges s.slots) (λ e m. ap (λ f. is_from s.rows r f && p e.to) (slot_begins s.slots e m))

  from_contents : (cs : List (CownId × Value)) → count_by test (content_edges cs) ≡ 0
  from_contents cs = none_count test (content_edges cs) (λ e m. ap (λ f. is_from s.rows r f && p e.to) (content_begins cs e m).1)

  from_frozen : (frozen : List Row) → ((x : Row) → Member x frozen → (has_row s.given x.name || has_row s.own x.name) ≡ true) → count_by test (rows_edges frozen) ≡ 0
  from_frozen frozen in_them = none_count test (rows_edges frozen) (λ e m.
      let x = edge_row frozen e m in
      ap (λ f. is_from s.rows r f && p e.to) x.from ∙ ap (λ w. is_in r w && p e.to) ((rows_in_place s d.well_formed).apart (x.row).name (in_them x.row x.mem)))

  pub near_from_region : count_by test (near_edges s) ≡ count_by p (region_targets rows r)
  near_from_region = omega (arith, near_count test s, from_rows, from_slots, from_contents s.held, from_contents s.made)

  pub edges_from_region : count_by test (edges s) ≡ count_by p (region_targets rows r)
  edges_from_region = omega (
    arith,
    edges_count test s,
    near_from_region,
    count_app test (rows_edges s.given) (rows_edges s.own),
    from_frozen s.given (λ x m. or_left _ _ (mem_has x s.given m)),
    from_frozen s.own (λ x m. ap (λ b. has_row s.given x.name || b) (mem_has x s.own m) ∙ or-true _),
  )
