-- What a region owns by its rows is what it owns in the state; and a walk from bridges finds all regions below them.
use Rattle.std.proofs.Common.{List, None, Option, Some, [], ap, cond, false, inl, inr, length, not, refl, slice_get, subst, sym, true, ℕ, ◌&&◌, ◌+◌, ◌++◌, ◌||◌, ◌∙◌, ◌∷◌, ◌≡◌, ◌⊎◌}
use Rattle.std.proofs.lemmas.Bool.{and_parts, false_from_ne_true, or_cases}
use Rattle.std.proofs.lemmas.List.{append-nil, append_assoc, length-append}
use Rattle.std.proofs.Math.Bool.{or-false, or-true}
use Rattle.std.specs.List.{list_any}
use Rattle.lf_base.specs.declared.ids.ObjId.{ObjId}
use Rattle.lf_base.specs.declared.values.Owner.{Owner}
use Rattle.lf_base.specs.declared.values.Owner.TheVariants.{Frozen, In, Local}
use Rattle.lf_base.specs.Edges.{Content, Edge, Field, Slot, Source, edges, field_targets, rows_edges}
use Rattle.lf_base.specs.Names.{same_name, same_owner}
use Rattle.lf_base.specs.Owners.{has_name, is_bridge, is_in, owner_in}
use Rattle.lf_base.specs.Ownership.{Above, direct, is_from, is_in_other, is_owned, is_owning, owns, step}
use Rattle.lf_base.specs.PlainState.{State}
use Rattle.lf_base.specs.Sets.{Member}
use Rattle.lf_base.specs.TouchedEdges.{row_fields}
use Rattle.lf_base.proofs.ListLemmas.Filters.{Member_filter, Member_of_filter}
use Rattle.lf_base.proofs.ListLemmas.Members.{Member_any, Member_flat_map, Member_left, Member_of_flat_map, Member_right, any_Member}
use Rattle.lf_base.proofs.ListLemmas.Tests.{any_weaker}
use Rattle.lf_base.proofs.NameLemmas.SameNames.{same_name_is, same_name_itself}
use Rattle.lf_barrier.specs.Descents.{IsBelow, Looked, Passed, is_child, region_targets}
use Rattle.lf_barrier.specs.MovingEdges.{fields_in, targets_in}
use Rattle.lf_barrier.specs.Surveys.{is_other_bridge}
use Rattle.lf_barrier.proofs.MovingEdges.FieldLoops.{fields_told}
use Rattle.lf_barrier.proofs.FieldWrites.InsideWrite.{target_edge}
use Rattle.lf_barrier.proofs.Descents.OwnedRegions.{named_here}
use Rattle.lf_barrier.proofs.MovingEdges.RowLoops.{head_there}
use Rattle.lf_barrier.proofs.Surveys.SurveyRows.{head_at, none_at}
use Rattle.lf_domain.specs.Counts.{IsDomain}
use Rattle.lf_domain.proofs.NearCounts.{bridge_has_row}
use Rattle.lf_domain.proofs.StoreEdges.{owner_told}
use Rattle.lf_graph.specs.StoredRows.{AreRowsOf, CountedRow, fields_by, is_under, owner_at, owner_by, row_named, rows_of}
use Rattle.lf_graph.proofs.Stores.Reordered.{same_owner_is, same_owner_itself}
use Rattle.lf_laws.proofs.Dropping.RowsInPlace.{rows_in_place}
use Rattle.lf_laws.proofs.Edges.FrozenEdges.{near_owned}
use Rattle.lf_laws.proofs.Rows.EdgeSources.{at_content, at_frozen, at_row, at_slot, edge_begins}
use Rattle.lf_laws.proofs.Rows.OwnerTests.{in_region}
use Rattle.lf_laws.proofs.Rows.RowEdges.{edge_row}
use Rattle.lf_laws.proofs.Rows.RowsByName.{at_mem, has_append}
use Rattle.lf_regions.specs.declared.region.Region.{Region}
use Rattle.lf_regions.specs.Regions.{has_region, owned_of}
use Rattle.lf_regions.specs.TableCounts.{owns_region}

child_bridge : (r o : ObjId) (w : Option Owner) → is_child r o w ≡ true → (w ≡ Some (In o)) × (same_name r o ≡ false)
child_bridge r o (Some (In q)) e =
    let p = and_parts (same_name q o) (not (same_name r o)) e in
    (ap (λ n. Some (In n)) (same_name_is q o p.0), false_from_ne_true _ (λ h. let z : false ≡ true = ap not (sym h) ∙ p.1 in cc))
child_bridge r o (Some Local) e = absurd (let z : false ≡ true = e in cc)
child_bridge r o (Some Frozen) e = absurd (let z : false ≡ true = e in cc)
child_bridge r o None e = absurd (let z : false ≡ true = e in cc)

found_there : (t : Option CountedRow) (w : Owner) → owner_by t ≡ Some w → (c : CountedRow) × ((t ≡ Some c) × ((c.row).owner ≡ w))
found_there None w e = absurd (cc)
found_there (Some c) w e = (c, (refl, (let z : (c.row).owner ≡ w = cc in z)))

row_named_member : (rows : List CountedRow) (o : ObjId) (c : CountedRow) → row_named rows o ≡ Some c → Member c rows
row_named_member [] o c e = absurd (cc)
row_named_member (x ∷ xs) o c e =
    elim (same_name (x.row).name o) as (λ b. cond b (Some x) (row_named xs o) ≡ Some c → Member c (x ∷ xs)) [
      | true ↦ λ k. inl (let z : x ≡ c = cc in z)
      | false ↦ λ k. inr (row_named_member xs o c k)
    ] e

module _ (rows : List CountedRow) (regions : List Region) (s : State) (d : IsDomain rows regions s) where
  abbrev a : AreRowsOf rows s.rows
  a = ((d.counts).store).rows

  pub child_owned : (r t : ObjId) → Member t (region_targets rows r) → is_child r t (owner_at rows t) ≡ true → owns s r t ≡ true
  child_owned r t m k =
      let child = child_bridge r t (owner_at rows t) k in
      let row = Member_of_flat_map (λ (c : CountedRow). field_targets (c.row).fields) t (rows_of (In r) rows) m in
      let c = row.0 in
      let under = Member_of_filter (is_under (In r)) c rows row.1.0 in
      let named = named_here rows c (a).differ under.0 in
      let owner : owner_in s.rows (c.row).name ≡ Some (In r) = owner_told rows s.rows (c.row).name a ∙ ap owner_by named ∙ ap Some (same_owner_is (c.row).owner (In r) under.1) in
      let fields : (c.row).fields ≡ fields_in s.rows (c.row).name = sym (ap fields_by named) ∙ fields_told rows s.rows (c.row).name a in
      let edge : Edge = record { from = Field (c.row).name; to = t } in
      let mem : Member edge (edges s) = Member_right edge _ _ (Member_left edge (rows_edges s.rows) _ (target_edge s.rows (c.row).name t (subst (λ l. Member t (field_targets l)) fields row.1.1))) in
      let from : (is_from s.rows r (Field (c.row).name) && same_name t t) ≡ true = ap (λ w. is_in r w && same_name t t) owner ∙ ap (λ b. b && same_name t t) (same_name_itself r) ∙ same_name_itself t in
      let some : list_any (λ e. is_from s.rows r e.from && same_name e.to t) (edges s) ≡ true = Member_any (λ e. is_from s.rows r e.from && same_name e.to t) edge (edges s) mem from in
      ap (λ b. not b && (is_bridge s.rows t && list_any (λ e. is_from s.rows r e.from && same_name e.to t) (edges s))) child.1
      ∙ ap (λ w. is_in t w && list_any (λ e. is_from s.rows r e.from && same_name e.to t) (edges s)) (owner_told rows s.rows t a ∙ child.0)
      ∙ ap (λ b. b && list_any (λ e. is_from s.rows r e.from && same_name e.to t) (edges s)) (same_name_itself t) ∙ some

  from_region : (r : ObjId) (f : Source) → is_from s.rows r f ≡ true → (p : ObjId) × ((f ≡ Field p) × (owner_in s.rows p ≡ Some (In r)))
  from_region r Slot h = absurd (let z : false ≡ true = h in cc)
  from_region r (Field p) h = (p, (refl, in_region r (owner_in s.rows p) h))
  from_region r (Content c) h = absurd (let z : false ≡ true = h in cc)

  field_name : (p q : ObjId) → Field p ≡ Field q → p ≡ q
  field_name p q e = cc

  in_rows : (e : Edge) (p : ObjId) (w : Owner) → Member e (edges s) → e.from ≡ Field p → owner_in s.rows p ≡ Some w → Member e.to (targets_in s.rows p)
  in_rows e p w m f o = elim (edge_begins s e m) as (λ _. Member e.to (targets_in s.rows p)) [
    | at_slot k n ↦ absurd (let z : Field p ≡ Slot = sym f ∙ k in cc)
    | at_row x k g n ↦
        let y = edge_row s.rows e n in
        let same : (y.row).name ≡ p = field_name (y.row).name p (sym y.from ∙ f) in
        subst (λ q. Member e.to (targets_in s.rows q)) same
        (subst (λ u. Member e.to (field_targets (row_fields u))) (sym (at_mem s.rows (rows_in_place s d.well_formed).distinct y.row y.mem)) y.to)
    | at_content c k n ↦ absurd (let z : Field p ≡ Content c = sym f ∙ k in cc)
    | at_frozen x k g ↦
        let none : owner_in s.rows p ≡ None = ap (owner_in s.rows) (field_name p x.name (sym f ∙ g)) ∙ (rows_in_place s d.well_formed).apart x.name k in
        absurd (let z : Some w ≡ None = sym o ∙ none in cc)
  ]

  pub owned_child : (r t : ObjId) → owns s r t ≡ true → Member t (region_targets rows r) × (is_child r t (owner_at rows t) ≡ true)
  owned_child r t h =
      let p = and_parts (not (same_name r t)) (is_bridge s.rows t && list_any (λ e. is_from s.rows r e.from && same_name e.to t) (edges s)) h in
      let q = and_parts (is_bridge s.rows t) (list_any (λ e. is_from s.rows r e.from && same_name e.to t) (edges s)) p.1 in
      let e = any_Member (λ e. is_from s.rows r e.from && same_name e.to t) (edges s) q.1 in
      let z = and_parts (is_from s.rows r (e.0).from) (same_name (e.0).to t) e.1.1 in
      let source = from_region r (e.0).from z.0 in
      let to : (e.0).to ≡ t = same_name_is (e.0).to t z.1 in
      let targets : Member t (targets_in s.rows source.0) = subst (λ n. Member n (targets_in s.rows source.0)) to (in_rows e.0 source.0 (In r) e.1.0 source.1.0 source.1.1) in
      let c = found_there (row_named rows source.0) (In r) (sym (owner_told rows s.rows source.0 a) ∙ source.1.1) in
      let member : Member c.0 (rows_of (In r) rows) = Member_filter (is_under (In r)) c.0 rows (row_named_member rows source.0 c.0 c.1.0) (ap (λ w. same_owner w (In r)) c.1.1 ∙ same_owner_itself (In r)) in
      let fields : targets_in s.rows source.0 ≡ field_targets ((c.0).row).fields = ap field_targets (sym (fields_told rows s.rows source.0 a) ∙ ap fields_by c.1.0) in
      let bridge : owner_at rows t ≡ Some (In t) = sym (owner_told rows s.rows t a) ∙ in_region t (owner_in s.rows t) q.0 in (
        Member_flat_map (λ (c : CountedRow). field_targets (c.row).fields) c.0 t (rows_of (In r) rows) member (subst (Member t) fields targets),
        ap (is_child r t) bridge ∙ ap (λ b. b && not (same_name r t)) (same_name_itself t) ∙ p.0,
      )

  -- a region above `home` has one that owns `home` directly
  last_step : (b home : ObjId) → Above s b home → (q : ObjId) × (owns s q home ≡ true)
  last_step b home (direct e) = (b, e)
  last_step b home (step e rest) = last_step _ home rest

  owns_of : (e : Edge) (q home : ObjId) → same_name q home ≡ false → (is_from s.rows q e.from && same_name e.to home) ≡ true → owns_region s.rows home e ≡ true
  owns_of e q home n h =
      let z = and_parts (is_from s.rows q e.from) (same_name e.to home) h in
      let source = from_region q e.from z.0 in
      ap (λ f. is_owning s.rows f home && same_name e.to home) source.1.0 ∙ ap (λ w. is_in_other home w && same_name e.to home) source.1.1 ∙ ap (λ b. not b && same_name e.to home) n ∙ z.1

  pub not_below : (home : ObjId) → has_region regions home ≡ true → owned_of regions home ≡ false → (b : ObjId) → Above s b home → ⊥
  not_below home there free b above =
      let last = last_step b home above in
      let p = and_parts (not (same_name last.0 home)) (is_bridge s.rows home && list_any (λ e. is_from s.rows last.0 e.from && same_name e.to home) (edges s)) last.1 in
      let q = and_parts (is_bridge s.rows home) (list_any (λ e. is_from s.rows last.0 e.from && same_name e.to home) (edges s)) p.1 in
      let other : same_name last.0 home ≡ false = false_from_ne_true _ (λ h. let z : false ≡ true = ap not (sym h) ∙ p.0 in cc) in
      let owned : is_owned s home ≡ true = any_weaker (λ e. is_from s.rows last.0 e.from && same_name e.to home) (owns_region s.rows home) (edges s) (λ e m h. owns_of e last.0 home other h) q.1 in
      let is : is_owned s home ≡ owned_of regions home = near_owned s d.well_formed home (bridge_has_row s d.well_formed home q.0) ∙ sym (((d.counts).table).owned home q.0) in
      let z : true ≡ false = sym owned ∙ is ∙ free in cc

  pub above_more : (b r t : ObjId) → Above s b r → owns s r t ≡ true → Above s b t
  above_more b r t (direct e) f = step e (direct f)
  above_more b r t (step e rest) f = step e (above_more _ r t rest f)

  -- a set that has what each of its members owns has all that is below one of them
  pub all_below : (visited : List ObjId) → ((q t : ObjId) → has_name visited q ≡ true → owns s q t ≡ true → has_name visited t ≡ true) → (b t : ObjId) → Above s b t → has_name visited b ≡ true → has_name visited t ≡ true
  all_below visited closed b t (direct e) h = closed b t h e
  all_below visited closed b t (step {p = p} e rest) h = all_below visited closed p t rest (closed b p h e)

-- ---- the walk
module _ (rows : List CountedRow) (regions : List Region) (home : ObjId) (bridges : List ObjId) where
  abbrev Reached : State → ObjId → Type 0
  Reached s t = (b : ObjId) × ((has_name bridges b ≡ true) × ((b ≡ t) ⊎ Above s b t))

  pub record Descending (i : ℕ) (visited : List ObjId) : Type 0 where
    pub done : List ObjId
    pub left : List ObjId
    pub count : length done ≡ i
    pub split : visited ≡ done ++ left
    pub reach : (s : State) → IsDomain rows regions s → (t : ObjId) → has_name visited t ≡ true → Reached s t
    pub closed : (s : State) → IsDomain rows regions s → (q t : ObjId) → has_name done q ≡ true → owns s q t ≡ true → has_name visited t ≡ true
    pub start : (b : ObjId) → has_name bridges b ≡ true → has_name visited b ≡ true
    pub apart : has_name visited home ≡ false

  not_home : (w : Option Owner) → is_other_bridge home home w ≡ true → ⊥
  not_home (Some (In q)) e =
      let p = and_parts (not (same_name home q)) (same_name q home) e in
      let z : false ≡ true = ap not (sym (same_name_itself home)) ∙ ap (λ n. not (same_name home n)) (sym (same_name_is q home p.1)) ∙ p.0 in cc
  not_home (Some Local) e = let z : false ≡ true = e in cc
  not_home (Some Frozen) e = let z : false ≡ true = e in cc
  not_home None e = let z : false ≡ true = e in cc

  pub descending_begins : ((b : ObjId) → has_name bridges b ≡ true → is_other_bridge home b (owner_at rows b) ≡ true) → Descending 0 bridges
  descending_begins others = record {
    done = [];
    left = bridges;
    count = refl;
    split = refl;
    reach = λ s d t h. (t, (h, inl refl));
    closed = λ s d q t h o. absurd (let z : false ≡ true = h in cc);
    start = λ b h. h;
    apart = false_from_ne_true _ (λ h. not_home (owner_at rows home) (others home h));
  }

  module _ (i : ℕ) (visited : List ObjId) (g : Descending i visited) (r : ObjId) (at : Some r ≡ slice_get visited i) where
    region_left : (rest : List ObjId) × (g.left ≡ r ∷ rest)
    region_left = head_at g.done g.left i r g.count (at ∙ ap (λ l. slice_get l i) g.split)

    visited_now : visited ≡ g.done ++ r ∷ (region_left).0
    visited_now = g.split ∙ ap (λ l. g.done ++ l) (region_left).1

    is_visited : has_name visited r ≡ true
    is_visited = ap (λ l. has_name l r) visited_now ∙ has_append g.done (r ∷ (region_left).0) r ∙ ap (λ b. has_name g.done r || b) (head_there r (region_left).0) ∙ or-true (has_name g.done r)

    above_child : (s : State) → IsDomain rows regions s → (t : ObjId) → owns s r t ≡ true → (b : ObjId) × ((has_name bridges b ≡ true) × Above s b t)
    above_child s d t o =
        let k = g.reach s d r is_visited in (
          k.0,
          (
            k.1.0,
            elim (k.1.1) as (λ _. Above s k.0 t) [
              | inl e ↦ subst (λ q. Above s q t) (sym e) (direct o)
              | inr up ↦ above_more rows regions s d k.0 r t up o
            ],
          ),
        )

    pub home_found : Looked rows r home (region_targets rows r) visited visited true → (s : State) → IsDomain rows regions s → IsBelow s bridges home true
    home_found l s d = above_child s d home (child_owned rows regions s d r home l.0 l.1)

    pub descending_on : (next : List ObjId) → Passed rows r home (region_targets rows r) visited next → Descending (i + 1) next
    descending_on next e =
        let kept : (t : ObjId) → has_name visited t ≡ true → has_name next t ≡ true = λ t h. ap (λ l. has_name l t) e.grows ∙ has_append visited e.more t ∙ ap (λ b. b || has_name e.more t) h in
        record {
          done = g.done ++ r ∷ [];
          left = (region_left).0 ++ e.more;
          count = length-append g.done (r ∷ []) ∙ ap (λ n. n + 1) g.count;
          split = e.grows ∙ ap (λ l. l ++ e.more) visited_now ∙ append_assoc g.done (r ∷ (region_left).0) e.more ∙ sym (append_assoc g.done (r ∷ []) ((region_left).0 ++ e.more));
          reach = λ s d t h. elim (e.only t h) as (λ _. Reached s t) [
            | inl k ↦ g.reach s d t k
            | inr k ↦ let up = above_child s d t (child_owned rows regions s d r t k.0 k.1) in (up.0, (up.1.0, inr up.1.1))
          ];
          closed = λ s d q t h o. elim (or_cases (has_name g.done q) (has_name (r ∷ []) q) (sym (has_append g.done (r ∷ []) q) ∙ h)) as (λ _. has_name next t ≡ true) [
            | inl k ↦ kept t (g.closed s d q t k o)
            | inr k ↦
                let same : r ≡ q = same_name_is r q (sym (or-false (same_name r q)) ∙ k) in
                let child = owned_child rows regions s d r t (subst (λ n. owns s n t ≡ true) (sym same) o) in
                (e.covered t child.0 child.1).0
          ];
          start = λ b h. kept b (g.start b h);
          apart = e.apart g.apart;
        }

  pub home_not_found : (i : ℕ) (visited : List ObjId) → Descending i visited → None ≡ slice_get visited i → (s : State) → IsDomain rows regions s → IsBelow s bridges home false
  home_not_found i visited g none s d b h above =
      let over : g.left ≡ [] = none_at g.done g.left i g.count (none ∙ ap (λ l. slice_get l i) g.split) in
      let all : visited ≡ g.done = g.split ∙ ap (λ l. g.done ++ l) over ∙ append-nil g.done in
      let z : true ≡ false = sym (all_below rows regions s d visited (λ q t k o. g.closed s d q t (ap (λ l. has_name l q) (sym all) ∙ k) o) b home above (g.start b h)) ∙ g.apart in cc
