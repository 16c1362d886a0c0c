-- Each row of an ended state, of which all rows stay, is in the part of some content.
use Rattle.std.proofs.Common.{Bool, List, Some, [], ap, cond, false, inl, inr, not, refl, subst, sym, true, ◌&&◌, ◌++◌, ◌||◌, ◌∙◌, ◌∷◌, ◌≡◌}
use Rattle.std.specs.List.{filter, list_any}
use Rattle.lf_base.specs.declared.ids.CownId.{CownId}
use Rattle.lf_base.specs.declared.ids.ObjId.{ObjId}
use Rattle.lf_base.specs.declared.values.Owner.{Owner}
use Rattle.lf_base.specs.declared.values.Owner.TheVariants.{Frozen, In, Local}
use Rattle.lf_base.specs.declared.values.Value.{Value}
use Rattle.lf_base.specs.Edges.{Content, Edge, content_edges, edges, edges_by, row_edges, rows_edges, slot_edges}
use Rattle.lf_base.specs.Kept.{is_owned_by, kept, points, points_into, stays, stays_by_owner}
use Rattle.lf_base.specs.MergeResult.{lies_in}
use Rattle.lf_base.specs.Names.{is_local, same_name, targets_of_value}
use Rattle.lf_base.specs.Owners.{bridges, has_row, is_bridge, is_in, is_local_at, names, or_frozen, owner_in}
use Rattle.lf_base.specs.Ownership.{is_from, is_owning, owns}
use Rattle.lf_base.specs.PlainState.{Row, State}
use Rattle.lf_base.specs.Sets.{Member}
use Rattle.lf_base.specs.WalkCounts.{is_borrower}
use Rattle.lf_base.specs.WellFormed.{from_row, may_lead}
use Rattle.lf_laws.proofs.Rows.RowsByName.{Distinct, row_of, mem_has, owner_mem, differ_rows}
use Rattle.lf_base.proofs.ListLemmas.Tests.{any_none, some_is, or_first}
use Rattle.lf_laws.proofs.Rows.OwnerTests.{in_region, other_is}
use Rattle.lf_laws.proofs.Rows.RowEdges.{edge_row, row_edge}
use Rattle.lf_laws.proofs.Dropping.KeptRows.{kept_in, kept_stays, kept_has, kept_meets, stays_more}
use Rattle.std.proofs.lemmas.Bool.{both_ways, and_from, and_parts, not_from_false, not-true}
use Rattle.lf_base.proofs.ListLemmas.Members.{Member_any, Member_map, Member_of_flat_map, Within_flat_map, any_Member, any_more, Member_left, Member_of_append, Member_right, Within}
use Rattle.lf_base.proofs.NameLemmas.SameNames.{same_name_is, same_name_itself}
use Rattle.lf_base.proofs.ListLemmas.Filters.{Member_filter, Member_of_filter}
use Rattle.lf_base.proofs.ListLemmas.GreatestSets.{greatest_has}
use Rattle.lf_base.specs.Contents.{alone, part}
use Rattle.lf_base.specs.WholeContents.{Ended}

module _ (e : State) (t : Ended e) (all : kept e ≡ e) where
  distinct : Distinct e.rows
  distinct = differ_rows e.rows (names e.given ++ names e.own) (t.whole).names_differ

  row_owner_is : (x : Row) → Member x e.rows → owner_in e.rows x.name ≡ Some (x.owner)
  row_owner_is x m = owner_mem e.rows distinct x m

  -- no row is local, no slot is set: nothing borrows
  no_borrow : (d : Edge) → Member d (slot_edges e.slots ++ rows_edges e.rows) → is_borrower e.rows d.from ≡ false
  no_borrow d m = elim (Member_of_append d (slot_edges e.slots) (rows_edges e.rows) m) [
    | inl n ↦ absurd (subst (λ slots. Member d (slot_edges slots)) t.no_slots n)
    | inr n ↦ let x = edge_row e.rows d n in ap (is_borrower e.rows) x.from ∙ ap is_local_at (row_owner_is x.row x.mem) ∙ not_local (x.row).owner (t.no_locals x.row x.mem)
  ]
    where
      not_local : (o : Owner) → is_local o ≡ false → is_local_at (Some o) ≡ false
      not_local Local k = absurd (both_ways true k refl)
      not_local (In r) k = refl
      not_local Frozen k = refl

  justified : (x : Row) → Member x e.rows → stays e e.rows x ≡ true
  justified x m = subst (λ rows. stays e rows x ≡ true) (ap (λ (s : State). s.rows) all) (kept_meets e x (subst (Member x) (sym (ap (λ (s : State). s.rows) all)) m))

  abbrev region : ObjId → List Row
  region q = filter (lies_in q) e.rows

  in_region_is : (q : ObjId) (x : Row) → Member x (region q) → Member x e.rows × (x.owner ≡ In q)
  in_region_is q x m = let k = Member_of_filter (lies_in q) x e.rows m in (k.0, owner_by x.owner k.1)
    where
      owner_by : (o : Owner) → is_in q (Some o) ≡ true → o ≡ In q
      owner_by Local h = absurd (both_ways _ refl h)
      owner_by (In r) h = ap In (sym (same_name_is q r h))
      owner_by Frozen h = absurd (both_ways _ refl h)

  region_has : (q : ObjId) (x : Row) → Member x e.rows → x.owner ≡ In q → Member x (region q)
  region_has q x m h = Member_filter (lies_in q) x e.rows m (ap (λ o. is_in q (Some o)) h ∙ same_name_itself q)

  -- an edge from a row to an inner row comes from the same region
  from_inside : (d : Edge) → Member d (rows_edges e.rows) → (q : ObjId) → owner_in e.rows d.to ≡ Some (In q) → same_name q d.to ≡ false → Member d (rows_edges (region q))
  from_inside d m q at inner =
      let x = edge_row e.rows d m in
      let lead : may_lead e d.from d.to ≡ true = (t.whole).leads d (Member_right d (slot_edges e.slots) _ (Member_left d (rows_edges e.rows) _ m)) in
      let l2 : from_row (Some ((x.row).owner)) d.to (Some (In q)) ≡ true = (λ i. from_row (or_frozen (has_row e.given (x.row).name || has_row e.own (x.row).name) (sym (row_owner_is x.row x.mem) i)) d.to (or_frozen (has_row e.given d.to || has_row e.own d.to) (sym at i))) ∙ ap (λ f. may_lead e f d.to) (sym x.from) ∙ lead in
      row_edge (region q) x.row d (region_has q x.row x.mem (owner_by (x.row).owner (t.no_locals x.row x.mem) l2)) x.from x.to
    where
      owner_by : (o : Owner) → is_local o ≡ false → from_row (Some o) d.to (Some (In q)) ≡ true → o ≡ In q
      owner_by Local n h = absurd (both_ways true n refl)
      owner_by Frozen n h = absurd (both_ways _ refl h)
      owner_by (In r) n h = ap In (same_name_is r q (elim (same_name r q) as (λ b. (b || same_name q d.to) ≡ true → b ≡ true) [ true ↦ λ k. refl | false ↦ λ k. absurd (both_ways _ inner k) ] h))

  module _ (c : CownId × Value) where
    abbrev more : ObjId → List Row
    more q = part e c ++ region q

    -- with an owning edge of its bridge the whole region is in the part
    pub region_in : (q : ObjId) → owner_in e.rows q ≡ Some (In q) → is_owned_by (more q) (alone e c) q ≡ true → Within (region q) (part e c)
    region_in q b owned x m = kept_has (alone e c) (more q) meets within x (Member_right x (part e c) (region q) m)
      where
        bridge_there : has_row (more q) q ≡ true
        bridge_there = let y = row_of e.rows q (In q) b in subst (λ n. has_row (more q) n ≡ true) y.name (mem_has y.row (more q) (Member_right y.row (part e c) (region q) (region_has q y.row y.mem y.owner)))

        points_there : (o : ObjId) → owner_in e.rows o ≡ Some (In q) → same_name q o ≡ false → points e.rows e o ≡ true → points (more q) (alone e c) o ≡ true
        points_there o at inner h =
            let d = any_Member (λ (d : Edge). same_name d.to o) (slot_edges e.slots ++ rows_edges e.rows) h in
            elim (Member_of_append d.0 (slot_edges e.slots) (rows_edges e.rows) d.1.0) [
              | inl n ↦ absurd (subst (λ slots. Member d.0 (slot_edges slots)) t.no_slots n)
              | inr n ↦
                  let to : (d.0).to ≡ o = same_name_is (d.0).to o d.1.1 in
                  let k = from_inside d.0 n q (ap (owner_in e.rows) to ∙ at) (ap (same_name q) to ∙ inner) in
                  Member_any (λ (d : Edge). same_name d.to o) d.0 (rows_edges (more q)) (Within_flat_map row_edges (region q) (more q) (λ y z. Member_right y (part e c) (region q) z) d.0 k) d.1.1
            ]

        region_stays : (y : Row) → Member y (region q) → stays (alone e c) (more q) y ≡ true
        region_stays y n =
            let k = in_region_is q y n in
            let j : stays_by_owner e e.rows y.name (In q) ≡ true = ap (stays_by_owner e e.rows y.name) (sym k.1) ∙ justified y k.0 in
            ap (stays_by_owner (alone e c) (more q) y.name) k.1 ∙ elim (same_name q y.name) as (λ b. same_name q y.name ≡ b → cond b (is_owned_by e.rows e q || points_into e.rows e q) (has_row e.rows q && points e.rows e y.name) ≡ true → cond b (is_owned_by (more q) (alone e c) q || points_into (more q) (alone e c) q) (has_row (more q) q && points (more q) (alone e c) y.name) ≡ true) [
              | true ↦ λ s h. ap (λ b. b || points_into (more q) (alone e c) q) owned
              | false ↦ λ s h. and_from _ _ bridge_there (points_there y.name (row_owner_is y k.0 ∙ ap Some k.1) s (and_parts (has_row e.rows q) _ h).1)
            ] refl j

        meets : (y : Row) → Member y (more q) → stays (alone e c) (more q) y ≡ true
        meets y n = elim (Member_of_append y (part e c) (region q) n) [
          | inl k ↦ stays_more (alone e c) (part e c) (more q) y (λ z m. Member_left z (part e c) (region q) m) (kept_meets (alone e c) y k)
          | inr k ↦ region_stays y k
        ]

        within : Within (more q) e.rows
        within y n = elim (Member_of_append y (part e c) (region q) n) [ inl k ↦ kept_in (alone e c) y k | inr k ↦ (in_region_is q y k).0 ]

  abbrev covered : ObjId → Bool
  covered q = list_any (λ c. has_row (part e c) q) (e.held ++ e.made)

  abbrev bare : List ObjId
  bare = filter (λ q. not (covered q)) (bridges e)

  owner_edge : (q : ObjId) → owner_in e.rows q ≡ Some (In q) → (d : Edge) × (Member d (rows_edges e.rows ++ (content_edges e.held ++ content_edges e.made)) × ((is_owning e.rows d.from q && same_name d.to q) ≡ true))
  owner_edge q b =
      let y = row_of e.rows q (In q) b in
      let j : stays_by_owner e e.rows q (In q) ≡ true = (λ i. stays_by_owner e e.rows (sym y.name i) (sym y.owner i)) ∙ justified y.row y.mem in
      let k : (is_owned_by e.rows e q || points_into e.rows e q) ≡ true = ap (λ b. cond b (is_owned_by e.rows e q || points_into e.rows e q) (has_row e.rows q && points e.rows e q)) (sym (same_name_itself q)) ∙ j in
      let none : points_into e.rows e q ≡ false = any_none (λ (d : Edge). is_borrower e.rows d.from && is_in q (owner_in e.rows d.to)) (slot_edges e.slots ++ rows_edges e.rows) (λ d m. ap (λ b. b && is_in q (owner_in e.rows d.to)) (no_borrow d m)) in
      any_Member (λ (d : Edge). is_owning e.rows d.from q && same_name d.to q) (rows_edges e.rows ++ (content_edges e.held ++ content_edges e.made)) (or_first (is_owned_by e.rows e q) (points_into e.rows e q) k none)

  -- a covered bridge has its whole region in that part
  region_covered : (c : CownId × Value) (q : ObjId) → owner_in e.rows q ≡ Some (In q) → has_row (part e c) q ≡ true → Within (region q) (part e c)
  region_covered c q b h =
      let k : cond (same_name q q) (is_owned_by (part e c) (alone e c) q || points_into (part e c) (alone e c) q) (has_row (part e c) q && points (part e c) (alone e c) q) ≡ true = kept_stays (alone e c) distinct q (In q) b h in
      let j : (is_owned_by (part e c) (alone e c) q || points_into (part e c) (alone e c) q) ≡ true = ap (λ b. cond b (is_owned_by (part e c) (alone e c) q || points_into (part e c) (alone e c) q) (has_row (part e c) q && points (part e c) (alone e c) q)) (sym (same_name_itself q)) ∙ k in
      let none : points_into (part e c) (alone e c) q ≡ false = any_none (λ (d : Edge). is_borrower e.rows d.from && is_in q (owner_in e.rows d.to)) (rows_edges (part e c)) (λ d m. ap (λ b. b && is_in q (owner_in e.rows d.to)) (no_borrow d (Member_right d (slot_edges e.slots) (rows_edges e.rows) (Within_flat_map row_edges (part e c) e.rows (kept_in (alone e c)) d m)))) in
      region_in c q b (any_more (λ (d : Edge). is_owning e.rows d.from q && same_name d.to q) (rows_edges (part e c) ++ (content_edges (c ∷ []) ++ [])) (rows_edges (more c q) ++ (content_edges (c ∷ []) ++ []))
      (λ d m. elim (Member_of_append d (rows_edges (part e c)) (content_edges (c ∷ []) ++ []) m) [
        | inl n ↦ Member_left d (rows_edges (more c q)) _ (Within_flat_map row_edges (part e c) (more c q) (λ y z. Member_left y (part e c) (region q) z) d n)
        | inr n ↦ Member_right d (rows_edges (more c q)) _ n
      ])
      (or_first (is_owned_by (part e c) (alone e c) q) (points_into (part e c) (alone e c) q) j none))

  now_covered : (c : CownId × Value) → Member c (e.held ++ e.made) → (q : ObjId) → owner_in e.rows q ≡ Some (In q) → Within (region q) (part e c) → covered q ≡ true
  now_covered c m q b h =
      let y = row_of e.rows q (In q) b in
      Member_any (λ c. has_row (part e c) q) c (e.held ++ e.made) m (subst (λ n. has_row (part e c) n ≡ true) y.name (mem_has y.row (part e c) (h y.row (region_has q y.row y.mem y.owner))))

  bare_is : (q : ObjId) → Member q bare → (owner_in e.rows q ≡ Some (In q)) × (covered q ≡ false)
  bare_is q m = let k = Member_of_filter (λ q. not (covered q)) q (bridges e) m in (in_region q (owner_in e.rows q) (Member_of_filter (is_bridge e.rows) q (names e.rows) k.0).1, not-true (covered q) k.1)

  is_bare : (p : ObjId) → owner_in e.rows p ≡ Some (In p) → covered p ≡ false → Member p bare
  is_bare p b h = let x = row_of e.rows p (In p) b in Member_filter (λ q. not (covered q)) p (bridges e)
      (Member_filter (is_bridge e.rows) p (names e.rows) (subst (λ n. Member n (names e.rows)) x.name (Member_map (λ (r : Row). r.name) x.row e.rows x.mem)) (ap (is_in p) b ∙ same_name_itself p)) (not_from_false (covered p) h)

  bare_owned : (q : ObjId) → Member q bare → list_any (λ p. owns e p q) bare ≡ true
  bare_owned q m =
      let k = bare_is q m in
      let d = owner_edge q k.0 in
      let o = and_parts (is_owning e.rows (d.0).from q) (same_name (d.0).to q) d.1.1 in
      elim (Member_of_append d.0 (rows_edges e.rows) (content_edges e.held ++ content_edges e.made) d.1.0) [
        | inl n ↦
            let x = edge_row e.rows d.0 n in
            let out = other_is q (owner_in e.rows (x.row).name) (ap (λ f. is_owning e.rows f q) (sym x.from) ∙ o.0) in
            let top : owner_in e.rows out.region ≡ Some (In out.region) = (t.whole).bridge (x.row).name out.region out.is in
            let lies : (x.row).owner ≡ In out.region = some_is (x.row).owner (In out.region) (sym (row_owner_is x.row x.mem) ∙ out.is) in
            let does : owns e out.region q ≡ true = and_from _ _ (not_from_false _ out.other) (and_from _ _ (ap (is_in q) k.0 ∙ same_name_itself q)
            (Member_any (λ (d : Edge). is_from e.rows out.region d.from && same_name d.to q) d.0 (edges e) (Member_right d.0 (slot_edges e.slots) _ (Member_left d.0 (rows_edges e.rows) _ n)) (and_from _ _ (ap (is_from e.rows out.region) x.from ∙ ap (is_in out.region) out.is ∙ same_name_itself out.region) o.1))) in
            elim (covered out.region) as (λ b. covered out.region ≡ b → list_any (λ p. owns e p q) bare ≡ true) [
              | false ↦ λ h. Member_any (λ p. owns e p q) out.region bare (is_bare out.region top h) does
              | true ↦ λ h.
                  let c = any_Member (λ c. has_row (part e c) out.region) (e.held ++ e.made) h in
                  let here : Member x.row (part e c.0) = region_covered c.0 out.region top c.1.1 x.row (region_has out.region x.row x.mem lies) in
                  let there : Member d.0 (rows_edges (more c.0 q)) = row_edge (more c.0 q) x.row d.0 (Member_left x.row (part e c.0) (region q) here) x.from x.to in
                  absurd (both_ways _ k.1 (now_covered c.0 c.1.0 q k.0 (region_in c.0 q k.0 (Member_any (λ (d : Edge). is_owning e.rows d.from q && same_name d.to q) d.0 (rows_edges (more c.0 q) ++ (content_edges (c.0 ∷ []) ++ [])) (Member_left d.0 (rows_edges (more c.0 q)) _ there) d.1.1))))
            ] refl
        | inr n ↦
            let c = content_of d.0 n in
            absurd (both_ways _ k.1 (now_covered c.0 c.1.0 q k.0 (region_in c.0 q k.0 (Member_any (λ (d : Edge). is_owning e.rows d.from q && same_name d.to q) d.0 (rows_edges (more c.0 q) ++ (content_edges (c.0 ∷ []) ++ [])) (Member_right d.0 (rows_edges (more c.0 q)) _ (Member_left d.0 (content_edges (c.0 ∷ [])) [] (Member_left d.0 (edges_by (Content (c.0).0) (targets_of_value (c.0).1)) [] c.1.1))) d.1.1))))
      ]
    where
      content_of : (d : Edge) → Member d (content_edges e.held ++ content_edges e.made) → (c : CownId × Value) × (Member c (e.held ++ e.made) × Member d (edges_by (Content c.0) (targets_of_value c.1)))
      content_of d n = elim (Member_of_append d (content_edges e.held) (content_edges e.made) n) [
        | inl z ↦ let x = Member_of_flat_map (λ (c : CownId × Value). edges_by (Content c.0) (targets_of_value c.1)) d e.held z in (x.0, (Member_left x.0 e.held e.made x.1.0, x.1.1))
        | inr z ↦ let x = Member_of_flat_map (λ (c : CownId × Value). edges_by (Content c.0) (targets_of_value c.1)) d e.made z in (x.0, (Member_right x.0 e.held e.made x.1.0, x.1.1))
      ]

  no_bare : (q : ObjId) → Member q bare → ⊥
  no_bare q m = subst (Member q) (t.whole).no_round (greatest_has (λ qs r. list_any (λ p. owns e p r) qs) (λ xs ys r w h. any_more (λ p. owns e p r) xs ys w h) (bridges e) bare bare_owned (λ z k. (Member_of_filter (λ q. not (covered q)) z (bridges e) k).0) q m)

  -- each row is in the part of a content
  pub rows_covered : (x : Row) → Member x e.rows → (c : CownId × Value) × (Member c (e.held ++ e.made) × Member x (part e c))
  rows_covered x m = go x.owner refl
    where
      go : (o : Owner) → x.owner ≡ o → (c : CownId × Value) × (Member c (e.held ++ e.made) × Member x (part e c))
      go (In q) h =
          let top = (t.whole).bridge x.name q (row_owner_is x m ∙ ap Some h) in
          elim (covered q) as (λ b. covered q ≡ b → (c : CownId × Value) × (Member c (e.held ++ e.made) × Member x (part e c))) [
            | true ↦ λ k. let c = any_Member (λ c. has_row (part e c) q) (e.held ++ e.made) k in (c.0, (c.1.0, region_covered c.0 q top c.1.1 x (region_has q x m h)))
            | false ↦ λ k. absurd (no_bare q (is_bare q top k))
          ] refl
      go Local h = absurd (both_ways _ (t.no_locals x m) (ap is_local h))
      go Frozen h = absurd ((t.whole).mutable x m h)
