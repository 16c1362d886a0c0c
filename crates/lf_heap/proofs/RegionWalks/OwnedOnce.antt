-- A region is owned by one edge at most, so a walk down meets each region once; and names that differ are no more than the
-- rows that have them.
use Rattle.std.proofs.Common.{Bool, List, Some, [], ap, arith, cond, count_by, false, filter, flat_map, inl, inr, length, not, refl, subst, suc, sym, true, zero, ℕ, ◌&&◌, ◌+◌, ◌++◌, ◌<◌, ◌∙◌, ◌∷◌, ◌≡◌, ◌≤◌, ◌⊎◌}
use Rattle.std.proofs.lemmas.Bool.{and_parts, false_from_ne_true, not_from_false}
use Rattle.std.proofs.lemmas.List.{length-map}
use Rattle.std.proofs.lemmas.List.Sums.{count_by-le-length, sum_by-cons}
use Rattle.std.specs.List.{list_any}
use Rattle.lf_base.specs.declared.ids.ObjId.{ObjId}
use Rattle.lf_base.specs.declared.values.Owner.TheVariants.{In}
use Rattle.lf_base.specs.Edges.{Content, Edge, Field, Slot, Source, content_edges, edges, edges_by, field_targets, row_edges, rows_edges, slot_edges}
use Rattle.lf_base.specs.Names.{same_name}
use Rattle.lf_base.specs.Owners.{is_bridge, names, owner_in}
use Rattle.lf_base.specs.Ownership.{Above, direct, is_from, is_in_other, is_owning, owning_edges, owns, step}
use Rattle.lf_base.specs.PlainState.{Row, State}
use Rattle.lf_base.specs.Sets.{Member}
use Rattle.lf_base.proofs.ListLemmas.Filters.{Member_filter, Member_of_filter, filter_full, full_or_less}
use Rattle.lf_base.proofs.ListLemmas.Members.{Member_map, Member_of_append, Member_of_flat_map, Member_right, any_Member}
use Rattle.lf_base.proofs.ListLemmas.Sublists.{count_sub, sub_filter, sub_flat_map, sub_map}
use Rattle.lf_base.proofs.ListLemmas.Tests.{count_one, none_count, some_is}
use Rattle.lf_base.proofs.NameLemmas.SameNames.{same_name_is, same_name_itself}
use Rattle.lf_barrier.specs.Descents.{is_child, region_targets}
use Rattle.lf_barrier.proofs.Descents.OwnedBelow.{above_more, child_owned}
use Rattle.lf_domain.specs.Counts.{IsDomain}
use Rattle.lf_domain.proofs.StoreEdges.{owner_told}
use Rattle.lf_graph.specs.StoredRows.{AreRowsOf, CountedRow, is_under, owner_at, owner_by, plain, rows_of}
use Rattle.lf_graph.proofs.Stores.Reordered.{same_owner_is}
use Rattle.lf_laws.proofs.Edges.EdgeParts.{any_some, count_app, count_positive}
use Rattle.lf_laws.proofs.Owners.OwnersGoRound.{none_above}
use Rattle.lf_laws.proofs.Rows.InsertedRows.{count_rows}
use Rattle.lf_laws.proofs.Rows.OwnerTests.{in_is, in_region}
use Rattle.lf_laws.proofs.Rows.RowEdges.{field_is}
use Rattle.lf_laws.proofs.Rows.RowsByName.{row_of}
use Rattle.lf_regions.specs.declared.region.Region.{Region}
use Rattle.lf_settle.proofs.RowsDropped.EmptiedRegion.{member_found}
use Rattle.lf_heap.specs.Openness.{children}

-- ---- names that stand in a list once
abbrev pub times : ObjId → List ObjId → ℕ
times t os = count_by (λ o. same_name o t) os

abbrev pub Once : List ObjId → Type 0
Once os = (t : ObjId) → times t os ≤ 1

times_cons : (t o : ObjId) (os : List ObjId) → times t (o ∷ os) ≡ cond (same_name o t) 1 0 + times t os
times_cons t o os = sum_by-cons (λ p. cond (same_name p t) 1 0) o os

times_here : (o : ObjId) (os : List ObjId) → times o (o ∷ os) ≡ 1 + times o os
times_here o os = times_cons o o os ∙ ap (λ b. cond b 1 0 + times o os) (same_name_itself o)

pub once_one : (o : ObjId) → Once (o ∷ [])
once_one o t = count_by-le-length (λ p. same_name p t) (o ∷ [])

once_tail : (o : ObjId) (os : List ObjId) → Once (o ∷ os) → Once os
once_tail o os once t = omega (arith, once t, times_cons t o os)

-- a name that comes again isn't among those before it
pub once_before : (done rest : List ObjId) (o : ObjId) → Once (done ++ o ∷ rest) → Member o done → ⊥
once_before done rest o once m =
    let before : 0 < times o done = count_positive (λ p. same_name p o) done o m (same_name_itself o) in
    omega (arith, once o, count_app (λ p. same_name p o) done (o ∷ rest), times_here o rest, before)

pub member_by_times : (o : ObjId) (os : List ObjId) → 0 < times o os → Member o os
member_by_times o os some =
    let x = any_Member (λ p. same_name p o) os (any_some (λ p. same_name p o) os some) in
    subst (λ n. Member n os) (same_name_is x.0 o x.1.1) x.1.0

-- a member that is taken out makes the list shorter
taken_out : (o : ObjId) (os : List ObjId) → Member o os → length (filter (λ p. not (same_name p o)) os) < length os
taken_out o os m = elim (full_or_less (λ p. not (same_name p o)) os) as (λ _. length (filter (λ p. not (same_name p o)) os) < length os) [
  | inl full ↦ absurd (
      let kept = Member_of_filter (λ p. not (same_name p o)) o os (subst (Member o) (sym (filter_full (λ p. not (same_name p o)) os full)) m) in
      let z : true ≡ false = sym kept.1 ∙ ap not (same_name_itself o) in cc)
  | inr less ↦ less
]

pub no_more_than : (os ns : List ObjId) → Once os → ((o : ObjId) → Member o os → Member o ns) → length os ≤ length ns
no_more_than [] ns once within = omega arith
no_more_than (o ∷ os) ns once within =
    let others : (p : ObjId) → Member p os → Member p (filter (λ q. not (same_name q o)) ns) = λ p m.
    Member_filter (λ q. not (same_name q o)) p ns (within p (inr m)) (not_from_false _ (false_from_ne_true _ (λ (h : same_name p o ≡ true).
    omega (arith, once o, times_here o os, count_positive (λ q. same_name q o) os p m h)))) in
    omega (arith, taken_out o ns (within o (inl refl)), no_more_than os (filter (λ q. not (same_name q o)) ns) (once_tail o os once) others)

-- ---- owning edges
module _ (s : State) (t : ObjId) where
  abbrev owning : Edge → Bool
  owning e = is_owning s.rows e.from t && same_name e.to t

  times_from : (f : Source) → is_owning s.rows f t ≡ true → (os : List ObjId) → times t os ≡ count_by owning (edges_by f os)
  times_from f is [] = refl
  times_from f is (o ∷ os) = omega (
    arith,
    times_cons t o os,
    sum_by-cons (λ (e : Edge). cond (owning e) 1 0) (record { from = f; to = o }) (edges_by f os),
    ap {B = ℕ} (λ b. cond (b && same_name o t) 1 0) is,
    times_from f is os,
  )

  times_rows : (cs : List CountedRow) → ((c : CountedRow) → Member c cs → is_owning s.rows (Field (c.row).name) t ≡ true) → times t (flat_map (λ c. field_targets (c.row).fields) cs) ≡ count_by owning (rows_edges (plain cs))
  times_rows [] own = refl
  times_rows (c ∷ cs) own = omega (
    arith,
    count_app (λ o. same_name o t) (field_targets (c.row).fields) (flat_map (λ (c : CountedRow). field_targets (c.row).fields) cs),
    count_app owning (row_edges c.row) (rows_edges (plain cs)),
    times_from (Field (c.row).name) (own c (inl refl)) (field_targets (c.row).fields),
    times_rows cs (λ d m. own d (inr m)),
  )

-- each of the regions is r or lies below it
abbrev pub ReachedFrom : State → ObjId → List ObjId → Type 0
ReachedFrom s r os = (t : ObjId) → Member t os → (r ≡ t) ⊎ Above s r t

module _ (rows : List CountedRow) (regions : List Region) (s : State) (d : IsDomain rows regions s) where
  abbrev a : AreRowsOf rows s.rows
  a = ((d.counts).store).rows

  -- the fields of a region's rows name another region as often as rows of that region have owning edges to it
  times_targets : (q t : ObjId) → same_name q t ≡ false → times t (region_targets rows q) ≤ owning_edges s t
  times_targets q t other =
      let inside : (c : CountedRow) → Member c (rows_of (In q) rows) → is_owning s.rows (Field (c.row).name) t ≡ true = λ c m.
      let f = Member_of_filter (is_under (In q)) c rows m in
      ap (is_in_other t) (owner_told rows s.rows (c.row).name a ∙ ap owner_by (member_found c rows (a).differ f.0) ∙ ap Some (same_owner_is (c.row).owner (In q) f.1)) ∙ ap not other in
      omega (
        arith,
        times_rows s t (rows_of (In q) rows) inside,
        count_sub (owning s t) (owning s t) (λ e h. h) (sub_flat_map row_edges (sub_map (λ (c : CountedRow). c.row) (sub_filter (is_under (In q)) rows))),
        count_rows (owning s t) (plain rows) [],
        ap (λ l. count_by (owning s t) (rows_edges l)) (a).rise,
        count_app (owning s t) (slot_edges s.slots) (rows_edges s.rows ++ (content_edges s.held ++ (content_edges s.made ++ (rows_edges s.given ++ rows_edges s.own)))),
        count_app (owning s t) (rows_edges s.rows) (content_edges s.held ++ (content_edges s.made ++ (rows_edges s.given ++ rows_edges s.own))),
      )

  -- what a region owns, seen from its rows
  pub is_owned_child : (q t : ObjId) → Member t (children rows q) → owns s q t ≡ true
  is_owned_child q t m =
      let f = Member_of_filter (λ o. is_child q o (owner_at rows o)) t (region_targets rows q) m in
      child_owned rows regions s d q t f.0 f.1

  owned_parts : (q t : ObjId) → owns s q t ≡ true → (same_name q t ≡ false) × ((is_bridge s.rows t ≡ true) × (list_any (λ e. is_from s.rows q e.from && same_name e.to t) (edges s) ≡ true))
  owned_parts q t h =
      let p = and_parts (not (same_name q t)) (is_bridge s.rows t && list_any (λ e. is_from s.rows q e.from && same_name e.to t) (edges s)) h in
      (false_from_ne_true _ (λ e. let z : false ≡ true = ap not (sym e) ∙ p.0 in cc), and_parts (is_bridge s.rows t) (list_any (λ e. is_from s.rows q e.from && same_name e.to t) (edges s)) p.1)

  pub children_once : (q : ObjId) → Once (children rows q)
  children_once q t = go (times t (children rows q)) refl where
    go : (n : ℕ) → times t (children rows q) ≡ n → times t (children rows q) ≤ 1
    go zero e = omega (arith, e)
    go (suc n) e =
        let some : Member t (children rows q) = member_by_times t (children rows q) (omega (arith, e)) in
        let p = owned_parts q t (is_owned_child q t some) in
        omega (
          arith,
          count_sub (λ o. same_name o t) (λ o. same_name o t) (λ o h. h) (sub_filter (λ o. is_child q o (owner_at rows o)) (region_targets rows q)),
          times_targets q t p.0,
          (d.well_formed).one_owner t p.1.0,
        )

  -- ---- one owner
  field_from : (q : ObjId) (f : Source) → is_from s.rows q f ≡ true → (p : ObjId) × ((f ≡ Field p) × (owner_in s.rows p ≡ Some (In q)))
  field_from q Slot h = absurd (let z : false ≡ true = h in cc)
  field_from q (Field p) h = (p, (refl, in_region q (owner_in s.rows p) h))
  field_from q (Content c) h = absurd (let z : false ≡ true = h in cc)

  record OwnerEdge (q t : ObjId) : Type 0 where
    pub edge : Edge
    pub mem : Member edge (edges s)
    pub owning : (is_owning s.rows edge.from t && same_name edge.to t) ≡ true
    pub row : ObjId
    pub from : edge.from ≡ Field row
    pub inside : owner_in s.rows row ≡ Some (In q)

  owner_edge : (q t : ObjId) → owns s q t ≡ true → OwnerEdge q t
  owner_edge q t h =
      let p = owned_parts q t h in
      let e = any_Member (λ e. is_from s.rows q e.from && same_name e.to t) (edges s) p.1.1 in
      let z = and_parts (is_from s.rows q (e.0).from) (same_name (e.0).to t) e.1.1 in
      let source = field_from q (e.0).from z.0 in
      record {
        edge = e.0;
        mem = e.1.0;
        owning = ap (λ f. is_owning s.rows f t && same_name (e.0).to t) source.1.0 ∙ ap (λ w. is_in_other t w && same_name (e.0).to t) source.1.1 ∙ ap (λ b. not b && same_name (e.0).to t) p.0 ∙ z.1;
        row = source.0;
        from = source.1.0;
        inside = source.1.1;
      }

  pub owner_is_one : (p q t : ObjId) → owns s p t ≡ true → owns s q t ≡ true → p ≡ q
  owner_is_one p q t h k =
      let x = owner_edge p t h in
      let y = owner_edge q t k in
      let one : x.edge ≡ y.edge = count_one (λ (e : Edge). is_owning s.rows e.from t && same_name e.to t) (edges s) ((d.well_formed).one_owner t (owned_parts p t h).1.0) x.edge y.edge x.mem y.mem x.owning y.owning in
      let row : x.row ≡ y.row = field_is x.row y.row (sym x.from ∙ ap (λ (e : Edge). e.from) one ∙ y.from) in
      in_is p q (some_is (In p) (In q) (sym x.inside ∙ ap (owner_in s.rows) row ∙ y.inside))

  pub owned_is_bridge : (q t : ObjId) → owns s q t ≡ true → owner_in s.rows t ≡ Some (In t)
  owned_is_bridge q t h = in_region t (owner_in s.rows t) (owned_parts q t h).1.0

  -- ---- the regions that a walk from r has come to
  pub below_next : (r q t : ObjId) → (r ≡ q) ⊎ Above s r q → owns s q t ≡ true → Above s r t
  below_next r q t (inl e) o = direct (ap (λ n. owns s n t) e ∙ o)
  below_next r q t (inr up) o = above_more rows regions s d r q t up o

  pub not_itself : (r : ObjId) → Above s r r → ⊥
  not_itself r up = none_above s (d.well_formed).no_round r up

  module _ (r q : ObjId) (done rest : List ObjId) (reach : ReachedFrom s r (done ++ q ∷ rest)) where
    q_reached : (r ≡ q) ⊎ Above s r q
    q_reached = reach q (Member_right q done (q ∷ rest) (inl refl))

    pub reached_on : ReachedFrom s r ((done ++ q ∷ rest) ++ children rows q)
    reached_on t m = elim (Member_of_append t (done ++ q ∷ rest) (children rows q) m) as (λ _. (r ≡ t) ⊎ Above s r t) [
      | inl k ↦ reach t k
      | inr k ↦ inr (below_next r q t q_reached (is_owned_child q t k))
    ]

    -- what q owns was not found before
    pub children_new : done ++ q ∷ rest ≡ r ∷ flat_map (children rows) done → Once (done ++ q ∷ rest) → (t : ObjId) → Member t (children rows q) → Member t (done ++ q ∷ rest) → ⊥
    children_new closed once t m n =
        let own = is_owned_child q t m in
        elim (subst (Member t) closed n) as (λ _. ⊥) [
          | inl e ↦ not_itself r (subst (Above s r) (sym e) (below_next r q t q_reached own))
          | inr k ↦
              let p = Member_of_flat_map (children rows) t done k in
              once_before done rest q once (subst (λ x. Member x done) (owner_is_one p.0 q t (is_owned_child p.0 t p.1.1) own) p.1.0)
        ]

    pub once_on : done ++ q ∷ rest ≡ r ∷ flat_map (children rows) done → Once (done ++ q ∷ rest) → Once ((done ++ q ∷ rest) ++ children rows q)
    once_on closed once t = go (times t (children rows q)) refl where
      go : (n : ℕ) → times t (children rows q) ≡ n → times t ((done ++ q ∷ rest) ++ children rows q) ≤ 1
      go zero e = omega (arith, e, once t, count_app (λ o. same_name o t) (done ++ q ∷ rest) (children rows q))
      go (suc n) e =
          let some : Member t (children rows q) = member_by_times t (children rows q) (omega (arith, e)) in
          let none : times t (done ++ q ∷ rest) ≡ 0 = none_count (λ o. same_name o t) (done ++ q ∷ rest) (λ o m. false_from_ne_true _ (λ h. children_new closed once t some (subst (λ x. Member x (done ++ q ∷ rest)) (same_name_is o t h) m))) in
          omega (arith, none, children_once q t, count_app (λ o. same_name o t) (done ++ q ∷ rest) (children rows q))

  reached_row : (r t : ObjId) → owner_in s.rows r ≡ Some (In r) → (r ≡ t) ⊎ Above s r t → owner_in s.rows t ≡ Some (In t)
  reached_row r t b (inl e) = subst (λ n. owner_in s.rows n ≡ Some (In n)) e b
  reached_row r t b (inr up) = by up where
    by : {x y : ObjId} → Above s x y → owner_in s.rows y ≡ Some (In y)
    by (direct {q} {r} e) = owned_is_bridge q r e
    by (step e rest) = by rest

  -- each region that is found has a row, so there are no more of them than rows
  pub no_more_than_rows : (r : ObjId) (os : List ObjId) → owner_in s.rows r ≡ Some (In r) → ReachedFrom s r os → Once os → length os ≤ length s.rows
  no_more_than_rows r os b reach once =
      omega (
        arith,
        no_more_than os (names s.rows) once (λ t m.
            let x = row_of s.rows t (In t) (reached_row r t b (reach t m)) in
            subst (λ n. Member n (names s.rows)) x.name (Member_map (λ (z : Row). z.name) x.row s.rows x.mem)),
        length-map s.rows (λ (z : Row). z.name),
      )
