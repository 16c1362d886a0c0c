-- The edges that begin at rows of some names, one name after the other.
use Rattle.std.proofs.Common.{Bool, List, Some, [], ap, arith, cond, false, refl, sym, true, ℕ, ◌&&◌, ◌+◌, ◌||◌, ◌∙◌, ◌∷◌, ◌≡◌}
use Rattle.std.proofs.lemmas.List.Sums.{sum_by-cons}
use Rattle.std.specs.List.{count_by, sum_by}
use Rattle.lf_base.specs.EdgeLists.{begins_at, near_edges}
use Rattle.lf_base.specs.Edges.{Content, Edge, Field, Source, content_edges, edges, edges_by, field_targets, row_edges, rows_edges, slot_edges}
use Rattle.lf_base.specs.Names.{same_name, targets_of_value}
use Rattle.lf_base.specs.Owners.{has_name, has_row, row_at}
use Rattle.lf_base.specs.PlainState.{Row, State}
use Rattle.lf_base.specs.Sets.{Differ, Member}
use Rattle.lf_base.specs.TouchedEdges.{edges_from, row_fields}
use Rattle.lf_base.specs.WellFormed.{WellFormed}
use Rattle.lf_base.specs.declared.ids.CownId.{CownId}
use Rattle.lf_base.specs.declared.ids.ObjId.{ObjId}
use Rattle.lf_base.specs.declared.values.Value.{Value}
use Rattle.lf_base.proofs.ListLemmas.Members.{Member_of_flat_map, Member_of_map}
use Rattle.lf_base.proofs.ListLemmas.Sums.{count_flat_map, sum_same}
use Rattle.lf_base.proofs.ListLemmas.Tests.{none_count}
use Rattle.lf_base.proofs.NameLemmas.SameNames.{other_way, same_name_is, same_name_itself}
use Rattle.lf_laws.proofs.Dropping.RowsInPlace.{rows_in_place}
use Rattle.lf_laws.proofs.Edges.EdgeParts.{count_app, count_alike_on, edges_count, near_count}
use Rattle.lf_laws.proofs.Edges.FieldEdges.{name_of_found}
use Rattle.lf_laws.proofs.Rows.EdgeSources.{slot_begins}
use Rattle.lf_laws.proofs.Rows.RowEdges.{edge_row}
use Rattle.lf_laws.proofs.Rows.RowsByName.{Distinct, mem_has, owner_there}
use Rattle.std.proofs.Math.Bool.{or-true}
use Rattle.std.proofs.lemmas.Bool.{false_from_ne_true, or_left}
use Rattle.std.proofs.lemmas.Option.{none-some}

pub flipped : (a b : ObjId) (c : Bool) → same_name a b ≡ c → same_name b a ≡ c
flipped a b true e = ap (same_name b) (same_name_is a b e) ∙ same_name_itself b
flipped a b false e = other_way a b e

-- ---- rows of names that differ, one by one
module _ (f : Row → ℕ) where
  -- what a row counts where it has one of these names
  abbrev pub among : List ObjId → Row → ℕ
  among os r = cond (has_name os r.name) (f r) 0

  abbrev here : ObjId → Row → ℕ
  here o r = cond (same_name r.name o) (f r) 0

  among_none : (rows : List Row) → sum_by (among []) rows ≡ 0
  among_none [] = refl
  among_none (r ∷ rs) = omega (arith, sum_by-cons (among []) r rs, among_none rs)

  one_of_names : (o : ObjId) (os : List ObjId) (r : Row) → has_name os o ≡ false → among (o ∷ os) r ≡ here o r + among os r
  one_of_names o os r lacks =
      elim (same_name o r.name) as (λ b. same_name o r.name ≡ b → cond (b || has_name os r.name) (f r) 0 ≡ here o r + among os r) [
        | true ↦ λ t.
            let a : here o r ≡ f r = ap {B = ℕ} (λ b. cond b (f r) 0) (flipped o r.name true t) in
            let b : among os r ≡ 0 = ap {B = ℕ} (λ b. cond b (f r) 0) (ap (has_name os) (sym (same_name_is o r.name t)) ∙ lacks) in
            omega (arith, a, b)
        | false ↦ λ t.
            let a : here o r ≡ 0 = ap {B = ℕ} (λ b. cond b (f r) 0) (flipped o r.name false t) in
            omega (arith, a)
      ] refl

  split_names : (o : ObjId) (os : List ObjId) → has_name os o ≡ false → (rows : List Row) → sum_by (among (o ∷ os)) rows ≡ sum_by (here o) rows + sum_by (among os) rows
  split_names o os lacks [] = refl
  split_names o os lacks (r ∷ rs) =
      omega (arith, sum_by-cons (among (o ∷ os)) r rs, sum_by-cons (here o) r rs, sum_by-cons (among os) r rs, one_of_names o os r lacks, split_names o os lacks rs)

  here_nowhere : (o : ObjId) (rows : List Row) → has_row rows o ≡ false → sum_by (here o) rows ≡ 0
  here_nowhere o [] h = refl
  here_nowhere o (r ∷ rs) h =
      elim (same_name r.name o) as (λ b. same_name r.name o ≡ b → (b || has_row rs o) ≡ false → sum_by (here o) (r ∷ rs) ≡ 0) [
        | true ↦ λ t k. cc
        | false ↦ λ t k. omega (arith, ap {B = ℕ} (λ b. cond b (f r) 0) t, sum_by-cons (here o) r rs, here_nowhere o rs k)
      ] refl h

  here_is : (o : ObjId) (row : Row) (rows : List Row) → Distinct rows → row_at rows o ≡ Some row → sum_by (here o) rows ≡ f row
  here_is o row [] d e = cc
  here_is o row (r ∷ rs) d e =
      elim (same_name r.name o) as (λ b. same_name r.name o ≡ b → cond b (Some r) (row_at rs o) ≡ Some row → sum_by (here o) (r ∷ rs) ≡ f row) [
        | true ↦ λ t k.
            let is : r ≡ row = cc in
            omega (
              arith,
              ap {B = ℕ} (λ b. cond b (f r) 0) t,
              ap f is,
              sum_by-cons (here o) r rs,
              here_nowhere o rs (ap (has_row rs) (sym (same_name_is r.name o t)) ∙ d.0),
            )
        | false ↦ λ t k. omega (arith, ap {B = ℕ} (λ b. cond b (f r) 0) t, sum_by-cons (here o) r rs, here_is o row rs d.1 k)
      ] refl e

  pub by_names : (g : ObjId → ℕ) (rows : List Row) → Distinct rows → (os : List ObjId) → Differ same_name os
      → ((o : ObjId) → has_name os o ≡ true → (row : Row) × ((row_at rows o ≡ Some row) × (g o ≡ f row))) → sum_by (among os) rows ≡ sum_by g os
  by_names g rows d [] differ h = among_none rows
  by_names g rows d (o ∷ os) differ h =
      let t = h o (ap (λ b. b || has_name os o) (same_name_itself o)) in
      omega (
        arith,
        split_names o os differ.0 rows,
        here_is o t.0 rows d t.1.0,
        t.1.1,
        sum_by-cons g o os,
        by_names g rows d os differ.1 (λ q m. h q (ap (λ b. same_name o q || b) m ∙ or-true (same_name o q))),
      )

pub found_row : (rows : List Row) (o : ObjId) → has_row rows o ≡ true → (row : Row) × (row_at rows o ≡ Some row)
found_row [] o h = cc
found_row (r ∷ rs) o h =
    elim (same_name r.name o) as (λ b. (b || has_row rs o) ≡ true → (row : Row) × (cond b (Some r) (row_at rs o) ≡ Some row)) [
      | true ↦ λ k. (r, refl)
      | false ↦ λ k. found_row rs o k
    ] h

-- ---- the edges that begin at them
pub begins : (f : Source) (os : List ObjId) (e : Edge) → Member e (edges_by f os) → e.from ≡ f
begins f os e m = let o = Member_of_map (λ (o : ObjId). record { from = f; to = o }) e os m in ap (λ (d : Edge). d.from) (sym o.1.1)

content_from : (cs : List (CownId × Value)) (e : Edge) → Member e (content_edges cs) → (c : CownId) × (e.from ≡ Content c)
content_from cs e m = let c = Member_of_flat_map (λ (c : CownId × Value). edges_by (Content c.0) (targets_of_value c.1)) e cs m in ((c.0).0, begins (Content (c.0).0) (targets_of_value (c.0).1) e c.1.1)

module _ (os : List ObjId) (p : Edge → Bool) where
  abbrev from_them : Edge → Bool
  from_them e = begins_at os e.from && p e

  abbrev row_worth : Row → ℕ
  row_worth r = count_by p (row_edges r)

  one_row : (r : Row) → count_by from_them (row_edges r) ≡ among row_worth os r
  one_row r = elim (has_name os r.name) as (λ b. has_name os r.name ≡ b → count_by from_them (row_edges r) ≡ cond b (row_worth r) 0) [
    | true ↦ λ h. count_alike_on from_them p (row_edges r) (λ e m. ap (λ f. begins_at os f && p e) (begins (Field r.name) (field_targets r.fields) e m) ∙ ap (λ b. b && p e) h)
    | false ↦ λ h. none_count from_them (row_edges r) (λ e m. ap (λ f. begins_at os f && p e) (begins (Field r.name) (field_targets r.fields) e m) ∙ ap (λ b. b && p e) h)
  ] refl

  pub rows_from : (rows : List Row) → Distinct rows → Differ same_name os → ((o : ObjId) → has_name os o ≡ true → has_row rows o ≡ true)
      → count_by from_them (rows_edges rows) ≡ count_by p (edges_from rows os)
  rows_from rows d differ there =
      let g : ObjId → ℕ = λ o. count_by p (edges_by (Field o) (field_targets (row_fields (row_at rows o)))) in
      count_flat_map from_them row_edges rows ∙ sum_same (λ r. count_by from_them (row_edges r)) (among row_worth os) one_row rows
      ∙ by_names row_worth g rows d os differ (λ o h.
      let y = found_row rows o (there o h) in
      (y.0, (y.1, (λ i. count_by p (edges_by (Field (sym (name_of_found rows o y.0 y.1) i)) (field_targets (row_fields (y.1 i))))))))
      ∙ sym (count_flat_map p (λ o. edges_by (Field o) (field_targets (row_fields (row_at rows o)))) os)

  module _ (s : State) (t : WellFormed s) (differ : Differ same_name os) (there : (o : ObjId) → has_name os o ≡ true → has_row s.rows o ≡ true) where
    from_slots : count_by from_them (slot_edges s.slots) ≡ 0
    from_slots = none_count from_them (slot_edges s.slots) (λ e m. ap (λ f. begins_at os f && p e) (slot_begins s.slots e m))

    from_contents : (cs : List (CownId × Value)) → count_by from_them (content_edges cs) ≡ 0
    from_contents cs = none_count from_them (content_edges cs) (λ e m. ap (λ f. begins_at os f && p e) (content_from cs e m).1)

    no_frozen : (x : Row) → (has_row s.given x.name || has_row s.own x.name) ≡ true → has_name os x.name ≡ false
    no_frozen x g = false_from_ne_true _ (λ h.
        let w = owner_there s.rows (rows_in_place s t).distinct x.name (there x.name h) in
        none-some w.owner (sym ((rows_in_place s t).apart x.name g) ∙ w.is))

    from_frozen_rows : (rows : List Row) → ((x : Row) → Member x rows → (has_row s.given x.name || has_row s.own x.name) ≡ true) → count_by from_them (rows_edges rows) ≡ 0
    from_frozen_rows rows in_them = none_count from_them (rows_edges rows) (λ e m.
        let x = edge_row rows e m in
        ap (λ f. begins_at os f && p e) x.from ∙ ap (λ b. b && p e) (no_frozen x.row (in_them x.row x.mem)))

    pub near_from : count_by from_them (near_edges s) ≡ count_by p (edges_from s.rows os)
    near_from =
        omega (arith, near_count from_them s, from_slots, from_contents s.held, from_contents s.made, rows_from s.rows (rows_in_place s t).distinct differ there)

    pub all_from : count_by from_them (edges s) ≡ count_by p (edges_from s.rows os)
    all_from =
        omega (
          arith,
          near_from,
          edges_count from_them s,
          count_app from_them (rows_edges s.given) (rows_edges s.own),
          from_frozen_rows s.given (λ x m. or_left _ _ (mem_has x s.given m)),
          from_frozen_rows s.own (λ x m. ap (λ b. has_row s.given x.name || b) (mem_has x s.own m) ∙ or-true _),
        )
