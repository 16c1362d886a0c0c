-- The part of a content is the rows of its region tree.
use Rattle.std.proofs.Common.{Bool, List, None, Option, Some, [], ap, cond, false, inl, inr, length, not, refl, subst, sym, true, ◌&&◌, ◌++◌, ◌||◌, ◌∙◌, ◌∷◌, ◌≡◌}
use Rattle.std.specs.List.{filter, list_any}
use Rattle.lf_base.specs.declared.ids.CownId.{CownId}
use Rattle.lf_base.specs.declared.ids.ObjId.{ObjId}
use Rattle.lf_base.specs.declared.values.Owner.{Owner}
use Rattle.lf_base.specs.declared.values.Owner.TheVariants.{Frozen, In, Local}
use Rattle.lf_base.specs.declared.values.Value.{Value}
use Rattle.lf_base.specs.declared.values.Value.TheVariants as value
use Rattle.lf_base.specs.Edges.{Content, Edge, content_edges, edges, edges_by, row_edges, rows_edges, slot_edges}
use Rattle.lf_base.specs.Kept.{is_owned_by, kept, points, points_into, stays}
use Rattle.lf_base.specs.MergeResult.{lies_in}
use Rattle.lf_base.specs.Names.{is_local, same_name, targets_of_value}
use Rattle.lf_base.specs.Owners.{bridge_of, bridges, has_name, has_row, is_bridge, is_in, is_local_at, names, owner_in}
use Rattle.lf_base.specs.Ownership.{Above, direct, is_from, is_in_other, is_owning, owns, step}
use Rattle.lf_base.specs.PlainState.{Row, State}
use Rattle.lf_base.specs.Sets.{Member}
use Rattle.lf_base.specs.WalkCounts.{is_borrower}
use Rattle.lf_laws.proofs.Rows.RowsByName.{Distinct, row_of, sub_same, owner_mem, differ_rows, Member_has_name, has_name_Member}
use Rattle.lf_base.proofs.ListLemmas.Tests.{any_none, some_is, or_first}
use Rattle.lf_laws.proofs.Rows.EdgeSources.{at_content, at_frozen, at_row, at_slot, edge_begins}
use Rattle.lf_laws.proofs.Rows.OwnerTests.{in_region, other_is}
use Rattle.lf_base.proofs.ListLemmas.Sublists.{sub_filter, sub_shrink}
use Rattle.lf_laws.proofs.Rows.RowEdges.{edge_row, row_edge, field_is}
use Rattle.lf_laws.proofs.Dropping.KeptRows.{kept_in, kept_stays}
use Rattle.std.proofs.lemmas.Bool.{both_ways, and_from, and_parts, not_from_false, not-true, true_from_ne_false}
use Rattle.lf_base.proofs.ListLemmas.Members.{Member_any, Member_map, Member_of_map, Within_flat_map, any_Member, any_more, Member_left, Member_of_append, Member_right, Within}
use Rattle.lf_laws.proofs.Changes.Merging.{owned_by}
use Rattle.lf_base.proofs.NameLemmas.SameNames.{same_name_is, same_name_itself}
use Rattle.lf_laws.proofs.Owners.PathsOfSets.{above_then, below_path}
use Rattle.lf_laws.proofs.Dropping.RowsInPlace.{rows_in_place}
use Rattle.lf_base.proofs.ListLemmas.Filters.{Member_filter, Member_of_filter}
use Rattle.lf_base.proofs.ListLemmas.GreatestSets.{greatest_has}
use Rattle.std.proofs.lemmas.Option.{none-some}
use Rattle.lf_base.specs.ContentTrees.{lies_in_one, owned_rows, regions_from}
use Rattle.lf_base.specs.Contents.{alone, part}
use Rattle.lf_base.specs.WholeContents.{Ended}
use Rattle.lf_laws.proofs.Contents.PartsCover.{region_in}
use Rattle.lf_laws.proofs.Contents.PartsApart.{part_bridge}

-- a value that names a bridge
pub bridge_named : (s : State) (v : Value) (q : ObjId) → Member q (targets_of_value v) → owner_in s.rows q ≡ Some (In q) → bridge_of s v ≡ Some q
bridge_named s (value.Obj o) q (inl h) b = ap (λ z. cond z (Some o) None) (ap (is_bridge s.rows) h ∙ ap (is_in q) b ∙ same_name_itself q) ∙ ap Some h
bridge_named s (value.Obj o) q (inr h) b = absurd h
bridge_named s value.None q h b = absurd h
bridge_named s (value.Bool x) q h b = absurd h
bridge_named s (value.Int n) q h b = absurd h
bridge_named s (value.Text n) q h b = absurd h
bridge_named s (value.Cown d) q h b = absurd h

by_bridge : (s : State) (o r : ObjId) (b : Bool) → is_bridge s.rows o ≡ b → cond b (Some o) None ≡ Some r → (o ≡ r) × (owner_in s.rows r ≡ Some (In r))
by_bridge s o r true h e = let same = some_is o r e in (same, subst (λ z. owner_in s.rows z ≡ Some (In z)) same (in_region o (owner_in s.rows o) h))
by_bridge s o r false h e = absurd (none-some r e)

pub names_bridge : (s : State) (v : Value) (r : ObjId) → bridge_of s v ≡ Some r → Member r (targets_of_value v) × (owner_in s.rows r ≡ Some (In r))
names_bridge s (value.Obj o) r e = let x = by_bridge s o r (is_bridge s.rows o) refl e in (inl x.0, x.1)
names_bridge s value.None r e = absurd (none-some r e)
names_bridge s (value.Bool x) r e = absurd (none-some r e)
names_bridge s (value.Int n) r e = absurd (none-some r e)
names_bridge s (value.Text n) r e = absurd (none-some r e)
names_bridge s (value.Cown d) r e = absurd (none-some r e)

-- what a region of the tree owns is of the tree
down : (s : State) (root : Option ObjId) (p q : ObjId) → Member p (regions_from s root) → owns s p q ≡ true → Member q (regions_from s root)
down s None p q m o = absurd m
down s (Some r) p q (inl h) o = inr ((below_path s r q).1 (direct (ap (λ z. owns s z q) h ∙ o)))
down s (Some r) p q (inr h) o = inr ((below_path s r q).1 (above_then s ((below_path s r p).0 h) o))

module _ (e : State) (t : Ended e) (all : kept e ≡ e) (c : CownId × Value) (here : Member c (e.held ++ e.made)) where
  distinct : Distinct e.rows
  distinct = differ_rows e.rows (names e.given ++ names e.own) (t.whole).names_differ

  row_owner_is : (x : Row) → Member x e.rows → owner_in e.rows x.name ≡ Some (x.owner)
  row_owner_is x m = owner_mem e.rows distinct x m

  abbrev rows : List Row
  rows = part e c

  abbrev tree : List ObjId
  tree = regions_from e (bridge_of e c.1)

  abbrev region : ObjId → List Row
  region q = filter (lies_in q) e.rows

  abbrev more : ObjId → List Row
  more q = rows ++ region q

  owner_by : (q : ObjId) (o : Owner) → is_in q (Some o) ≡ true → o ≡ In q
  owner_by q o h = some_is o (In q) (in_region q (Some o) h)

  -- ---- the part is in the tree
  no_borrow : (d : Edge) → Member d (rows_edges rows) → is_borrower e.rows d.from ≡ false
  no_borrow d m =
      let x = edge_row rows d m in
      ap (is_borrower e.rows) x.from ∙ ap is_local_at (row_owner_is x.row (kept_in (alone e c) x.row x.mem)) ∙ not_local (x.row).owner (t.no_locals x.row (kept_in (alone e c) x.row x.mem))
    where
      not_local : (o : Owner) → is_local o ≡ false → is_local_at (Some o) ≡ false
      not_local Local k = absurd (both_ways true k refl)
      not_local (In r) k = refl
      not_local Frozen k = refl

  -- each bridge of the part is owned by it or by the content
  pub owner_edge : (q : ObjId) → owner_in e.rows q ≡ Some (In q) → has_row rows q ≡ true
      → (d : Edge) × (Member d (rows_edges rows ++ (content_edges (c ∷ []) ++ [])) × ((is_owning e.rows d.from q && same_name d.to q) ≡ true))
  owner_edge q b h =
      let k : cond (same_name q q) (is_owned_by rows (alone e c) q || points_into rows (alone e c) q) (has_row rows q && points rows (alone e c) q) ≡ true = kept_stays (alone e c) distinct q (In q) b h in
      let j : (is_owned_by rows (alone e c) q || points_into rows (alone e c) q) ≡ true = ap (λ b. cond b (is_owned_by rows (alone e c) q || points_into rows (alone e c) q) (has_row rows q && points rows (alone e c) q)) (sym (same_name_itself q)) ∙ k in
      let none : points_into rows (alone e c) q ≡ false = any_none (λ (d : Edge). is_borrower e.rows d.from && is_in q (owner_in e.rows d.to)) (rows_edges rows) (λ d m. ap (λ b. b && is_in q (owner_in e.rows d.to)) (no_borrow d m)) in
      any_Member (λ (d : Edge). is_owning e.rows d.from q && same_name d.to q) (rows_edges rows ++ (content_edges (c ∷ []) ++ [])) (or_first (is_owned_by rows (alone e c) q) (points_into rows (alone e c) q) j none)

  content_target : (d : Edge) → Member d (content_edges (c ∷ []) ++ []) → Member d.to (targets_of_value c.1)
  content_target d m = elim (Member_of_append d (content_edges (c ∷ [])) [] m) [
    | inl k ↦ elim (Member_of_append d (edges_by (Content c.0) (targets_of_value c.1)) [] k) [
      | inl n ↦ let o = Member_of_map (λ (o : ObjId). record { from = Content c.0; to = o }) d (targets_of_value c.1) n in subst (λ (z : Edge). Member z.to (targets_of_value c.1)) o.1.1 o.1.0
      | inr n ↦ absurd n
    ]
    | inr k ↦ absurd k
  ]

  abbrev lost_at : ObjId → Bool
  lost_at q = has_row rows q && not (has_name tree q)

  abbrev lost : List ObjId
  lost = filter lost_at (bridges e)

  bridge_in : (p : ObjId) → owner_in e.rows p ≡ Some (In p) → Member p (bridges e)
  bridge_in p b = let x = row_of e.rows p (In p) b in Member_filter (is_bridge e.rows) p (names e.rows) (subst (λ n. Member n (names e.rows)) x.name (Member_map (λ (r : Row). r.name) x.row e.rows x.mem)) (ap (is_in p) b ∙ same_name_itself p)

  pub root_there : (q : ObjId) (root : Option ObjId) → root ≡ Some q → Member q (regions_from e root)
  root_there q (Some r) h = inl (some_is r q h)
  root_there q None h = absurd (none-some q h)

  lost_owned : (q : ObjId) → Member q lost → list_any (λ p. owns e p q) lost ≡ true
  lost_owned q m =
      let k = Member_of_filter lost_at q (bridges e) m in
      let b : owner_in e.rows q ≡ Some (In q) = in_region q (owner_in e.rows q) (Member_of_filter (is_bridge e.rows) q (names e.rows) k.0).1 in
      let h = and_parts (has_row rows q) (not (has_name tree q)) k.1 in
      let out : has_name tree q ≡ false = not-true (has_name tree q) h.1 in
      let d = owner_edge q b h.0 in
      let o = and_parts (is_owning e.rows (d.0).from q) (same_name (d.0).to q) d.1.1 in
      elim (Member_of_append d.0 (rows_edges rows) (content_edges (c ∷ []) ++ []) d.1.0) [
        | inl n ↦
            let x = edge_row rows d.0 n in
            let x_in : Member x.row e.rows = kept_in (alone e c) x.row x.mem in
            let up = other_is q (owner_in e.rows (x.row).name) (ap (λ f. is_owning e.rows f q) (sym x.from) ∙ o.0) in
            let top : owner_in e.rows up.region ≡ Some (In up.region) = (t.whole).bridge (x.row).name up.region up.is in
            let does : owns e up.region q ≡ true = and_from _ _ (not_from_false _ up.other) (and_from _ _ (ap (is_in q) b ∙ same_name_itself q)
            (Member_any (λ (d : Edge). is_from e.rows up.region d.from && same_name d.to q) d.0 (edges e) (Member_right d.0 (slot_edges e.slots) _ (Member_left d.0 (rows_edges e.rows) _ (Within_flat_map row_edges rows e.rows (kept_in (alone e c)) d.0 n))) (and_from _ _ (ap (is_from e.rows up.region) x.from ∙ ap (is_in up.region) up.is ∙ same_name_itself up.region) o.1))) in
            let up_in : has_row rows up.region ≡ true = part_bridge e t c here (x.row).name up.region up.is (mem_row x.row x.mem) in
            Member_any (λ p. owns e p q) up.region lost (Member_filter lost_at up.region (bridges e) (bridge_in up.region top) (and_from _ _ up_in (elim (has_name tree up.region) as (λ z. has_name tree up.region ≡ z → not z ≡ true) [
              | false ↦ λ g. refl
              | true ↦ λ g. absurd (both_ways _ out (Member_has_name q tree (down e (bridge_of e c.1) up.region q (has_name_Member up.region tree g) does)))
            ] refl))) does
        | inr n ↦
            let to : Member q (targets_of_value c.1) = subst (λ z. Member z (targets_of_value c.1)) (same_name_is (d.0).to q o.1) (content_target d.0 n) in
            absurd (both_ways _ out (Member_has_name q tree (root_there q (bridge_of e c.1) (bridge_named e c.1 q to b))))
      ]
    where
      mem_row : (x : Row) → Member x rows → has_row rows x.name ≡ true
      mem_row x m = Member_any (λ (r : Row). same_name r.name x.name) x rows m (same_name_itself x.name)

  no_lost : (q : ObjId) → Member q lost → ⊥
  no_lost q m = subst (Member q) (t.whole).no_round (greatest_has (λ qs r. list_any (λ p. owns e p r) qs) (λ xs ys r w h. any_more (λ p. owns e p r) xs ys w h) (bridges e) lost lost_owned (λ z k. (Member_of_filter lost_at z (bridges e) k).0) q m)

  pub part_in_tree : Within rows (owned_rows e c.1)
  part_in_tree x m = Member_filter (lies_in_one tree) x e.rows x_in (go x.owner refl)
    where
      x_in : Member x e.rows
      x_in = kept_in (alone e c) x m

      there : has_row rows x.name ≡ true
      there = Member_any (λ (r : Row). same_name r.name x.name) x rows m (same_name_itself x.name)

      go : (o : Owner) → x.owner ≡ o → lies_in_one tree x ≡ true
      go (In q) h =
          let own : owner_in e.rows x.name ≡ Some (In q) = row_owner_is x x_in ∙ ap Some h in
          let top = (t.whole).bridge x.name q own in
          let q_in : has_row rows q ≡ true = part_bridge e t c here x.name q own there in
          let row_there : has_name tree q ≡ true = true_from_ne_false (has_name tree q) (λ g. no_lost q (Member_filter lost_at q (bridges e) (bridge_in q top) (and_from _ _ q_in (not_from_false _ g)))) in
          Member_any (λ q. is_in q (Some (x.owner))) q tree (has_name_Member q tree row_there) (ap (λ o. is_in q (Some o)) h ∙ same_name_itself q)
      go Local h = absurd (both_ways _ (t.no_locals x x_in) (ap is_local h))
      go Frozen h = absurd ((t.whole).mutable x x_in h)

  -- ---- the tree is in the part
  -- with an owning edge from the part the region is in the part
  by_edge : (q : ObjId) (d : Edge) → Member d (rows_edges rows ++ (content_edges (c ∷ []) ++ [])) → owner_in e.rows q ≡ Some (In q) → (is_owning e.rows d.from q && same_name d.to q) ≡ true → Within (region q) rows
  by_edge q d m b o = region_in e t all c q b (Member_any (λ (d : Edge). is_owning e.rows d.from q && same_name d.to q) d (rows_edges (more q) ++ (content_edges (c ∷ []) ++ [])) (elim (Member_of_append d (rows_edges rows) (content_edges (c ∷ []) ++ []) m) [
    | inl n ↦ Member_left d (rows_edges (more q)) _ (Within_flat_map row_edges rows (more q) (λ y z. Member_left y rows (region q) z) d n)
    | inr n ↦ Member_right d (rows_edges (more q)) _ n
  ]) o)

  owned_in : (p q : ObjId) → owns e p q ≡ true → Within (region p) rows → Within (region q) rows
  owned_in p q o w =
      let x = owned_by e p q o in
      let owning : (is_owning e.rows (x.edge).from q && same_name (x.edge).to q) ≡ true = and_from _ _ (ap (λ f. is_owning e.rows f q) x.from ∙ ap (is_in_other q) x.owner ∙ ap not x.other) (ap (λ z. same_name z q) x.to ∙ same_name_itself q) in
      by_edge q x.edge (Member_left x.edge (rows_edges rows) _ (elim (edge_begins e x.edge x.mem) [
        | at_slot f n ↦ absurd (subst (λ slots. Member x.edge (slot_edges slots)) t.no_slots n)
        | at_row y n f k ↦
            let z = edge_row e.rows x.edge k in
            let same : (z.row).name ≡ x.name = field_is (z.row).name x.name (sym z.from ∙ x.from) in
            let lies : is_in p (Some ((z.row).owner)) ≡ true = ap (is_in p) (sym (row_owner_is z.row z.mem) ∙ ap (owner_in e.rows) same ∙ x.owner) ∙ same_name_itself p in
            row_edge rows z.row x.edge (w z.row (Member_filter (lies_in p) z.row e.rows z.mem lies)) z.from z.to
        | at_content d f n ↦ absurd (let z = sym f ∙ x.from in cc)
        | at_frozen y h f ↦ absurd (none-some (In p) (sym ((rows_in_place e t.whole).apart y.name h) ∙ ap (owner_in e.rows) (field_is y.name x.name (sym f ∙ x.from)) ∙ x.owner))
      ])) x.bridge owning

  above_in : {p q : ObjId} → Above e p q → Within (region p) rows → Within (region q) rows
  above_in (direct {q = p} {r = q} o) w = owned_in p q o w
  above_in (step {q = p} {p = z} o a) w = above_in a (owned_in p z o w)

  root_in : (r : ObjId) → bridge_of e c.1 ≡ Some r → Within (region r) rows
  root_in r h =
      let b = names_bridge e c.1 r h in
      by_edge r (record { from = Content c.0; to = r }) (Member_right _ (rows_edges rows) _ (Member_left _ (content_edges (c ∷ [])) [] (Member_left _ (edges_by (Content c.0) (targets_of_value c.1)) [] (Member_map (λ (o : ObjId). record { from = Content c.0; to = o }) r (targets_of_value c.1) b.0)))) b.1 (same_name_itself r)

  region_of_tree : (root : Option ObjId) → bridge_of e c.1 ≡ root → (q : ObjId) → Member q (regions_from e root) → Within (region q) rows
  region_of_tree None h q m = absurd m
  region_of_tree (Some r) h q (inl k) = subst (λ z. Within (region z) rows) k (root_in r h)
  region_of_tree (Some r) h q (inr k) = above_in ((below_path e r q).0 k) (root_in r h)

  pub tree_in_part : Within (owned_rows e c.1) rows
  tree_in_part x m =
      let k = Member_of_filter (lies_in_one tree) x e.rows m in
      let q = any_Member (λ q. is_in q (Some (x.owner))) tree k.1 in
      region_of_tree (bridge_of e c.1) refl q.0 q.1.0 x (Member_filter (lies_in q.0) x e.rows k.0 q.1.1)

  pub part_is_tree : part e c ≡ owned_rows e c.1
  part_is_tree = sub_same rows (owned_rows e c.1) e.rows distinct (sub_shrink (stays (alone e c)) (length e.rows) e.rows) (sub_filter (lies_in_one tree) e.rows) part_in_tree tree_in_part
