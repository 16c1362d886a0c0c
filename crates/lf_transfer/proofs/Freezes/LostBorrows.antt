-- The borrows of a region's rows that freeze: all edges to these rows but those from rows of the region.
use Rattle.std.proofs.Common.{Bool, List, None, Option, Some, [], ap, arith, cond, false, flat_map, inl, inr, is_some, length, refl, sym, true, ℕ, ◌&&◌, ◌+◌, ◌++◌, ◌<◌, ◌^◌, ◌||◌, ◌∙◌, ◌∷◌, ◌≡◌, ◌≤◌}
use Rattle.std.proofs.lemmas.Bool.{and_parts, false_from_ne_true}
use Rattle.std.proofs.lemmas.Grind.{flat_map-append}
use Rattle.std.proofs.lemmas.List.{append-nil, append_assoc}
use Rattle.std.proofs.lemmas.List.Sums.{count_by-le-length, sum_by-append, sum_by-cons}
use Rattle.std.proofs.Math.Bool.{and-false}
use Rattle.std.specs.List.{count_by, list_any, sum_by}
use Rattle.lf_base.specs.declared.ids.ObjId.{ObjId}
use Rattle.lf_base.specs.declared.values.Key.{Key}
use Rattle.lf_base.specs.declared.values.Owner.{Owner}
use Rattle.lf_base.specs.declared.values.Owner.TheVariants.{Frozen, In, Local}
use Rattle.lf_base.specs.declared.values.Value.{Value}
use Rattle.lf_base.specs.declared.values.Value.TheVariants as value
use Rattle.lf_base.specs.EdgeLists.{near_edges}
use Rattle.lf_base.specs.Edges.{Content, Edge, Field, Slot, Source, edges, field_targets}
use Rattle.lf_base.specs.FieldOrder.{field_after}
use Rattle.lf_base.specs.Names.{same_name, targets_of_value}
use Rattle.lf_base.specs.Owners.{has_name, has_row, is_in, is_local_at, names, or_frozen, owner_in, owner_of}
use Rattle.lf_base.specs.Ownership.{is_from}
use Rattle.lf_base.specs.PlainState.{State}
use Rattle.lf_base.specs.Sets.{Member}
use Rattle.lf_base.specs.WalkCounts.{borrows, is_borrower}
use Rattle.lf_base.specs.WellFormed.{WellFormed, from_content, from_row, may_lead}
use Rattle.lf_base.proofs.ListLemmas.Filters.{Member_of_filter}
use Rattle.lf_base.proofs.ListLemmas.Tests.{none_count}
use Rattle.lf_base.proofs.NameLemmas.SameNames.{same_name_flips, same_name_is, same_name_itself}
use Rattle.lf_barrier.specs.Descents.{region_targets}
use Rattle.lf_barrier.proofs.Descents.OwnedRegions.{named_here}
use Rattle.lf_barrier.proofs.MovingEdges.FieldLoops.{FieldWalk, walk_begins, walk_over}
use Rattle.lf_barrier.proofs.Surveys.SurveySteps.{flat_more, targets_more}
use Rattle.lf_domain.specs.Counts.{IsDomain}
use Rattle.lf_domain.proofs.NearCounts.{from_near}
use Rattle.lf_domain.proofs.StoreEdges.{owner_told}
use Rattle.lf_graph.specs.RowOrder.{names_under}
use Rattle.lf_graph.specs.StoredRows.{AreRowsOf, CountedRow, HasRow, NamesDiffer, fields_at, first_name, is_under, name_after, owner_at, plain, refs_at, refs_by, rows_beside, rows_of}
use Rattle.lf_graph.proofs.Stores.FieldWalks.{FieldKeysDiffer}
use Rattle.lf_graph.proofs.Stores.Walks.{differ_filter}
use Rattle.lf_laws.proofs.Edges.EdgeParts.{bit, count_alike_on, count_app, counts_one, same_by}
use Rattle.lf_laws.proofs.Rows.OwnerTests.{in_region}
use Rattle.lf_laws.proofs.Rows.RowsByName.{Member_has_name, has_name_Member}
use Rattle.lf_regions.specs.declared.region.Region.{Region}
use Rattle.lf_transfer.specs.Freezing.{borrows_of_taken, is_taken_in}
use Rattle.lf_transfer.proofs.States.RegionEdges.{edges_from_region, from_region, near_from_region}
use Rattle.lf_transfer.proofs.Taken.TakenRows.{owner_under, under_owner}
use Rattle.lf_transfer.proofs.Walks.References.{field_walk_on, row_targets, this_field}
use Rattle.lf_transfer.proofs.Walks.RegionWalk.{RegionWalk, fields_here, region_begins, region_goes_on, region_over, row_here, split_here, this_row}

-- ---- the edges to some rows, counted by the rows
abbrev pub taken_refs : List ObjId → CountedRow → ℕ
taken_refs taken c = cond (has_name taken (c.row).name) c.refs 0

length_one : (v : Value) → length (targets_of_value v) ≤ 1
length_one value.None = omega arith
length_one (value.Bool b) = omega arith
length_one (value.Int n) = omega arith
length_one (value.Text t) = omega arith
length_one (value.Obj o) = omega arith
length_one (value.Cown c) = omega arith

bit_small : (b : Bool) → bit b ≤ 1
bit_small true = omega arith
bit_small false = omega arith

-- one edge leads to the first of the rows, or to another one, or to none
apart_bits : (t x y : Bool) → (x ≡ true → y ≡ false) → bit (t && x) + bit (t && y) ≡ bit (t && (x || y))
apart_bits false x y h = refl
apart_bits true false y h = omega arith
apart_bits true true y h = omega (arith, ap {B = ℕ} (λ b. bit b) (h refl))

module _ (taken : List ObjId) (es : List Edge) where
  to_one : (c : CountedRow) → c.refs ≡ count_by (λ (e : Edge). same_name e.to (c.row).name) es → count_by (λ (e : Edge). has_name taken e.to && same_name (c.row).name e.to) es ≡ taken_refs taken c
  to_one c is =
      elim (has_name taken (c.row).name) as (λ b. has_name taken (c.row).name ≡ b → count_by (λ (e : Edge). has_name taken e.to && same_name (c.row).name e.to) es ≡ cond b c.refs 0) [
        | true ↦ λ h.
            count_alike_on (λ (e : Edge). has_name taken e.to && same_name (c.row).name e.to) (λ (e : Edge). same_name e.to (c.row).name) es (λ e m.
            elim (same_name (c.row).name e.to) as (λ b. same_name (c.row).name e.to ≡ b → (has_name taken e.to && b) ≡ b) [
              | true ↦ λ k. ap (λ b. b && true) (ap (has_name taken) (sym (same_name_is (c.row).name e.to k)) ∙ h)
              | false ↦ λ k. and-false (has_name taken e.to)
            ] refl ∙ same_name_flips (c.row).name e.to)
            ∙ sym is
        | false ↦ λ h. none_count (λ (e : Edge). has_name taken e.to && same_name (c.row).name e.to) es (λ e m.
            elim (same_name (c.row).name e.to) as (λ b. same_name (c.row).name e.to ≡ b → (has_name taken e.to && b) ≡ false) [
              | true ↦ λ k. ap (λ b. b && true) (ap (has_name taken) (sym (same_name_is (c.row).name e.to k)) ∙ h)
              | false ↦ λ k. and-false (has_name taken e.to)
            ] refl)
      ] refl

  pub to_rows : (cs : List CountedRow) → NamesDiffer cs → ((c : CountedRow) → Member c cs → c.refs ≡ count_by (λ (e : Edge). same_name e.to (c.row).name) es)
      → count_by (λ (e : Edge). has_name taken e.to && has_name (names (plain cs)) e.to) es ≡ sum_by (taken_refs taken) cs
  to_rows [] d h = none_count (λ (e : Edge). has_name taken e.to && false) es (λ e m. and-false (has_name taken e.to))
  to_rows (c ∷ cs) d h =
      let both = counts_one (λ (e : Edge). has_name taken e.to && same_name (c.row).name e.to) (λ (e : Edge). has_name taken e.to && has_name (names (plain cs)) e.to)
      (λ (e : Edge). has_name taken e.to && has_name (names (plain (c ∷ cs))) e.to) es (λ e m.
      apart_bits (has_name taken e.to) (same_name (c.row).name e.to) (has_name (names (plain cs)) e.to) (λ k. ap (has_name (names (plain cs))) (sym (same_name_is (c.row).name e.to k)) ∙ d.0)) in
      omega (arith, both, to_one c (h c (inl refl)), to_rows cs d.1 (λ x m. h x (inr m)), sum_by-cons (taken_refs taken) c cs)

-- ---- an edge to an inner row of region r borrows the region, or begins at a row of it
module _ (s : State) (well : WellFormed s) (r o : ObjId) (inside : owner_in s.rows o ≡ Some (In r)) (inner : same_name r o ≡ false) where
  owner_here : owner_of s o ≡ Some (In r)
  owner_here = ap (or_frozen (has_row s.given o || has_row s.own o)) inside

  no_content : (w : Option Owner) → w ≡ Some (In r) → from_content o w ≡ true → ⊥
  no_content w e h = let z : false ≡ true = sym inner ∙ sym (ap (from_content o) e) ∙ h in cc

  by_frozen : (b : Bool) → from_row (or_frozen b None) o (Some (In r)) ≡ true → ⊥
  by_frozen true h = let z : false ≡ true = h in cc
  by_frozen false h = let z : false ≡ true = h in cc

  by_field : (b : Bool) (w : Option Owner) → from_row (or_frozen b w) o (Some (In r)) ≡ true → bit (is_local_at w) + bit (is_in r w) ≡ 1
  by_field b None h = absurd (by_frozen b h)
  by_field b (Some Local) h = refl
  by_field b (Some Frozen) h = absurd (let z : false ≡ true = h in cc)
  by_field b (Some (In q)) h =
      elim (same_name q r) as (λ c. same_name q r ≡ c → (c || same_name r o) ≡ true → 0 + bit (same_name r q) ≡ 1) [
        | true ↦ λ k n. omega (arith, ap {B = ℕ} (λ c. bit c) (same_name_flips r q ∙ k))
        | false ↦ λ k n. absurd (let z : false ≡ true = sym inner ∙ n in cc)
      ] refl h

  pub one_way : (f : Source) → may_lead s f o ≡ true → bit (is_borrower s.rows f) + bit (is_from s.rows r f) ≡ 1
  one_way Slot h = refl
  one_way (Field p) h = by_field (has_row s.given p || has_row s.own p) (owner_in s.rows p) (sym (ap (from_row (owner_of s p) o) owner_here) ∙ h)
  one_way (Content c) h = absurd (no_content (owner_of s o) owner_here h)

module _ (rows : List CountedRow) (regions : List Region) (s : State) (d : IsDomain rows regions s) (taken : List ObjId) (r : ObjId) where
  abbrev a : AreRowsOf rows s.rows
  a = ((d.counts).store).rows

  abbrev test : ObjId → Bool
  test o = is_taken_in rows taken r o

  names_are : (o : ObjId) → has_name (names_under (In r) rows) o ≡ is_in r (owner_at rows o)
  names_are o = same_by (has_name (names_under (In r) rows) o) (is_in r (owner_at rows o))
      (λ h. ap (is_in r) (owner_under rows regions s d r o (has_name_Member o (names_under (In r) rows) h)) ∙ same_name_itself r)
      (λ h. Member_has_name o (names_under (In r) rows) (under_owner rows regions s d r o (in_region r (owner_at rows o) h)))

  refs_of_row : (c : CountedRow) → Member c (rows_of (In r) rows) → refs_at rows (c.row).name ≡ c.refs
  refs_of_row c m = ap refs_by (named_here rows c (a).differ (Member_of_filter (is_under (In r)) c rows m).0)

  has_row_of : (c : CountedRow) → Member c (rows_of (In r) rows) → HasRow rows (c.row).name
  has_row_of c m = ap is_some (named_here rows c (a).differ (Member_of_filter (is_under (In r)) c rows m).0)

  all_edges : (es : List Edge) → ((o : ObjId) → HasRow rows o → refs_at rows o ≡ count_by (λ (e : Edge). same_name e.to o) es) → count_by (λ (e : Edge). test e.to) es ≡ sum_by (taken_refs taken) (rows_of (In r) rows)
  all_edges es refs =
      count_alike_on (λ (e : Edge). test e.to) (λ (e : Edge). has_name taken e.to && has_name (names_under (In r) rows) e.to) es (λ e m. ap (λ b. has_name taken e.to && b) (sym (names_are e.to)))
      ∙ to_rows taken es (rows_of (In r) rows) (differ_filter (is_under (In r)) rows (a).differ) (λ c m. sym (refs_of_row c m) ∙ refs (c.row).name (has_row_of c m))

  -- there are few of them
  pub all_few : sum_by (taken_refs taken) (rows_of (In r) rows) < 2 ^ 63
  all_few = omega (arith, d.few, all_edges (near_edges s) ((d.counts).store).refs, count_by-le-length (λ (e : Edge). test e.to) (near_edges s))

  pub inner_few : count_by test (region_targets rows r) < 2 ^ 63
  inner_few = omega (arith, d.few, near_from_region rows regions s d r test, count_by-le-length (from_region s.rows r test) (near_edges s))

  module _ (out : has_name taken r ≡ false) where
    bits : (t b f : Bool) → (t ≡ true → bit b + bit f ≡ 1) → bit (t && b) + bit (f && t) ≡ bit t
    bits false b f h = omega (arith, ap {B = ℕ} (λ c. bit c) (and-false f))
    bits true b f h = omega (arith, h refl, ap {B = ℕ} (λ c. bit c) (stays f)) where
      stays : (x : Bool) → (x && true) ≡ x
      stays true = refl
      stays false = refl

    told : (e : Edge) → is_in r (owner_in s.rows e.to) ≡ is_in r (owner_at rows e.to)
    told e = ap (is_in r) (owner_told rows s.rows e.to a)

    regroup : (t b i : Bool) → (t && (b && i)) ≡ ((t && i) && b)
    regroup false b i = refl
    regroup true b false = and-false b
    regroup true false true = refl
    regroup true true true = refl

    one_edge : (e : Edge) → Member e (edges s) → bit (has_name taken e.to && borrows s.rows r e) + bit (from_region s.rows r test e) ≡ bit (test e.to)
    one_edge e m =
        let first : (has_name taken e.to && borrows s.rows r e) ≡ (test e.to && is_borrower s.rows e.from) = ap (λ b. has_name taken e.to && (is_borrower s.rows e.from && b)) (told e) ∙ regroup (has_name taken e.to) (is_borrower s.rows e.from) (is_in r (owner_at rows e.to)) in
        omega (
          arith,
          ap {B = ℕ} (λ c. bit c) first,
          bits (test e.to) (is_borrower s.rows e.from) (is_from s.rows r e.from) (λ h.
              let p = and_parts (has_name taken e.to) (is_in r (owner_at rows e.to)) h in
              one_way s d.well_formed r e.to (in_region r (owner_in s.rows e.to) (told e ∙ p.1))
              (false_from_ne_true _ (λ k. let z : true ≡ false = sym p.0 ∙ ap (has_name taken) (sym (same_name_is r e.to k)) ∙ out in cc)) e.from ((d.well_formed).leads e m)),
        )

    pub lost : borrows_of_taken s taken r + count_by test (region_targets rows r) ≡ sum_by (taken_refs taken) (rows_of (In r) rows)
    lost = omega (
      arith,
      counts_one (λ (e : Edge). has_name taken e.to && borrows s.rows r e) (from_region s.rows r test) (λ (e : Edge). test e.to) (edges s) one_edge,
      edges_from_region rows regions s d r test,
      all_edges (edges s) ((from_near s d.well_formed rows regions d.counts).store).refs,
    )

-- ---- the loops
module _ (rows : List CountedRow) (taken : List ObjId) (r : ObjId) where
  abbrev leads : ObjId → Bool
  leads o = is_taken_in rows taken r o

  pub record RowCounted (all : List (Key × Value)) (last : Option Key) (turn count : ℕ) : Type 0 where
    pub rest : List (Key × Value)
    pub walk : FieldWalk all rest last turn
    pub counted : count ≡ count_by leads (field_targets walk.so_far)
    pub few : count ≤ turn

  pub row_count_begins : (all : List (Key × Value)) → RowCounted all None 0 0
  row_count_begins all = record { rest = all; walk = walk_begins all; counted = refl; few = omega arith }

  one_value : (v : Value) → count_by leads (targets_of_value v) ≡ bit (list_any leads (targets_of_value v))
  one_value v = go (targets_of_value v) (length_one v) where
    go : (os : List ObjId) → length os ≤ 1 → count_by leads os ≡ bit (list_any leads os)
    go [] h = refl
    go (o ∷ []) h = elim (leads o) as (λ b. 0 + cond b 1 0 ≡ bit (b || false)) [ true ↦ refl | false ↦ refl ]
    go (o ∷ (p ∷ ps)) h = absurd (omega (arith, h))

  module _ (all : List (Key × Value)) (last : Option Key) (turn count : ℕ) (g : RowCounted all last turn count) where
    pub row_count_on : FieldKeysDiffer all → (k : Key) (v : Value) → Some (k, v) ≡ field_after all last → (next : ℕ) → next ≡ count + bit (list_any leads (targets_of_value v)) → RowCounted all (Some k) (turn + 1) next
    row_count_on d k v found next is = record {
      rest = (this_field all g.rest last turn g.walk k v found).0;
      walk = field_walk_on all g.rest last turn g.walk k v found d;
      counted = omega (arith, is, g.counted, one_value v, ap (count_by leads) (targets_more (g.walk).so_far (k, v)), count_app leads (field_targets (g.walk).so_far) (targets_of_value v));
      few = omega (arith, is, g.few, bit_small (list_any leads (targets_of_value v)));
    }

    pub row_counted : length all ≤ turn → count ≡ count_by leads (field_targets all)
    row_counted most =
        let none : g.rest ≡ [] = walk_over all g.rest last turn g.walk most in
        g.counted ∙ ap (λ l. count_by leads (field_targets l)) (sym ((g.walk).split ∙ ap (λ l. (g.walk).so_far ++ l) none ∙ append-nil (g.walk).so_far))

  pub record RegionCounted (next : Option ObjId) (all inner : ℕ) : Type 0 where
    pub walk : RegionWalk rows r next
    pub all_is : all ≡ sum_by (taken_refs taken) walk.done
    pub inner_is : inner ≡ count_by leads (flat_map row_targets walk.done)

  pub region_count_begins : (next : Option ObjId) → next ≡ first_name (rows_of (In r) rows) → RegionCounted next 0 0
  region_count_begins next e = record { walk = region_begins rows r next e; all_is = refl; inner_is = refl }

  module _ (differ : NamesDiffer rows) (next : Option ObjId) (all inner : ℕ) (g : RegionCounted next all inner) where
    pub region_counted : next ≡ None → (all ≡ sum_by (taken_refs taken) (rows_of (In r) rows)) × (inner ≡ count_by leads (region_targets rows r))
    region_counted none =
        let over = region_over rows r next g.walk none in
        (g.all_is ∙ ap (sum_by (taken_refs taken)) over, g.inner_is ∙ ap (λ l. count_by leads (flat_map row_targets l)) over)

    module _ (p : ObjId) (is : next ≡ Some p) where
      refs_here : refs_at rows p ≡ ((this_row rows r differ next g.walk p is).row).refs
      refs_here = ap refs_by (row_here rows r differ next g.walk p is)

      all_then : sum_by (taken_refs taken) ((g.walk).done ++ (this_row rows r differ next g.walk p is).row ∷ []) ≡ all + cond (has_name taken p) (refs_at rows p) 0
      all_then =
          let t = this_row rows r differ next g.walk p is in
          let here : cond (has_name taken ((t.row).row).name) (t.row).refs 0 ≡ cond (has_name taken p) (refs_at rows p) 0 = λ i. cond (has_name taken (t.name i)) (sym refs_here i) 0 in
          omega (
            arith,
            g.all_is,
            sum_by-append (taken_refs taken) (g.walk).done (t.row ∷ []),
            sum_by-cons (taken_refs taken) t.row [],
            here,
          )

      inner_then : count_by leads (flat_map row_targets ((g.walk).done ++ (this_row rows r differ next g.walk p is).row ∷ [])) ≡ inner + count_by leads (field_targets (fields_at rows p))
      inner_then =
          let t = this_row rows r differ next g.walk p is in
          omega (
            arith,
            g.inner_is,
            ap (count_by leads) (flat_more row_targets (g.walk).done t.row),
            count_app leads (flat_map row_targets (g.walk).done) (row_targets t.row),
            ap (λ l. count_by leads (field_targets l)) (fields_here rows r differ next g.walk p is),
          )

      pub region_count_on : (after : Option ObjId) → after ≡ name_after (rows_beside rows p) p → (x y : ℕ) → x ≡ all + cond (has_name taken p) (refs_at rows p) 0
          → y ≡ inner + count_by leads (field_targets (fields_at rows p)) → RegionCounted after x y
      region_count_on after after_is x y e f = record { walk = region_goes_on rows r differ next g.walk p is after after_is; all_is = e ∙ sym all_then; inner_is = f ∙ sym inner_then }

      -- what is left of the room in a number
      split_sum : sum_by (taken_refs taken) (rows_of (In r) rows) ≡ sum_by (taken_refs taken) ((g.walk).done ++ (this_row rows r differ next g.walk p is).row ∷ []) + sum_by (taken_refs taken) (this_row rows r differ next g.walk p is).later
      split_sum =
          let t = this_row rows r differ next g.walk p is in
          ap (sum_by (taken_refs taken)) (split_here rows r differ next g.walk p is ∙ sym (append_assoc (g.walk).done (t.row ∷ []) t.later)) ∙ sum_by-append (taken_refs taken) ((g.walk).done ++ t.row ∷ []) t.later

      pub all_fits : all + cond (has_name taken p) (refs_at rows p) 0 ≤ sum_by (taken_refs taken) (rows_of (In r) rows)
      all_fits = omega (arith, all_then, split_sum)

      pub inner_fits : inner + count_by leads (field_targets (fields_at rows p)) ≤ count_by leads (region_targets rows r)
      inner_fits =
          let t = this_row rows r differ next g.walk p is in
          omega (
            arith,
            inner_then,
            ap (λ l. count_by leads (flat_map row_targets l)) (split_here rows r differ next g.walk p is ∙ sym (append_assoc (g.walk).done (t.row ∷ []) t.later)),
            ap (count_by leads) (flat_map-append row_targets ((g.walk).done ++ t.row ∷ []) t.later),
            count_app leads (flat_map row_targets ((g.walk).done ++ t.row ∷ [])) (flat_map row_targets t.later),
          )
