-- The rows of two contents are different ones.
use Rattle.std.proofs.Common.{Bool, List, None, Option, Some, [], ap, cond, false, inl, inr, map, refl, subst, sym, true, ◌&&◌, ◌++◌, ◌||◌, ◌∙◌, ◌∷◌, ◌≡◌, ◌⊎◌}
use Rattle.std.specs.List.{filter, list_any}
use Rattle.lf_base.specs.declared.ids.CownId.{CownId}
use Rattle.lf_base.specs.declared.ids.ObjId.{ObjId}
use Rattle.lf_base.specs.declared.values.Owner.{Owner}
use Rattle.lf_base.specs.declared.values.Owner.TheVariants.{Frozen, In, Local}
use Rattle.lf_base.specs.declared.values.Value.{Value}
use Rattle.lf_base.specs.Edges.{Content, Edge, Field, content_edges, edges, row_edges, rows_edges, slot_edges}
use Rattle.lf_base.specs.Kept.{is_owned_by, points, points_into}
use Rattle.lf_base.specs.Names.{is_local, same_name, targets_of_value}
use Rattle.lf_base.specs.Owners.{bridges, has_row, is_bridge, is_in, is_local_at, names, owner_in}
use Rattle.lf_base.specs.Ownership.{is_from, is_owning, owns}
use Rattle.lf_base.specs.PlainState.{Row, State}
use Rattle.lf_base.specs.Sets.{Member}
use Rattle.lf_base.specs.WalkCounts.{is_borrower}
use Rattle.lf_laws.proofs.Rows.RowsByName.{Distinct, row_of, mem_has, row_there, owner_mem, differ_rows}
use Rattle.lf_base.proofs.ListLemmas.Tests.{any_none, count_one, or_first}
use Rattle.lf_laws.proofs.Rows.OwnerTests.{in_region, other_is}
use Rattle.lf_laws.proofs.Rows.RowEdges.{edge_row, field_is}
use Rattle.lf_laws.proofs.Dropping.KeptRows.{kept_in, kept_stays}
use Rattle.std.proofs.lemmas.Bool.{both_ways, and_from, and_parts, not_from_false, false_from_ne_true}
use Rattle.lf_base.proofs.ListLemmas.Members.{Member_any, Member_flat_map, Member_map, Member_of_flat_map, Member_of_map, Within_flat_map, any_Member, any_more, Member_left, Member_of_append, Member_right}
use Rattle.lf_base.proofs.NameLemmas.SameNames.{same_name_is, same_name_itself}
use Rattle.lf_base.proofs.ListLemmas.Filters.{Member_filter, Member_of_filter}
use Rattle.lf_base.proofs.ListLemmas.GreatestSets.{greatest_has}
use Rattle.lf_base.specs.Contents.{alone, part}
use Rattle.lf_base.specs.WholeContents.{Ended}

content_is : (c d : CownId) → Content c ≡ Content d → c ≡ d
content_is c d e = cc

in_local : (r : ObjId) (w : Owner) → w ≡ Local → is_local w ≡ true
in_local r w e = ap is_local e

module _ (s : State) (t : Ended s) where
  distinct : Distinct s.rows
  distinct = differ_rows s.rows (names s.given ++ names s.own) t.whole.names_differ

  -- no row is local
  none_local : (o : ObjId) → is_local_at (owner_in s.rows o) ≡ true → ⊥
  none_local o e = go (owner_in s.rows o) refl e
    where
      go : (u : Option Owner) → owner_in s.rows o ≡ u → is_local_at u ≡ true → ⊥
      go None h k = cc
      go (Some Local) h k = let x = row_of s.rows o Local h in both_ways _ (t.no_locals x.row x.mem) (ap is_local x.owner)
      go (Some (In r)) h k = cc
      go (Some Frozen) h k = cc

  -- an edge by which a content's part owns a bridge
  pub record PartOwner (c : CownId × Value) (q : ObjId) : Type 0 where
    pub edge : Edge
    pub mem : Member edge (edges s)
    pub owning : (is_owning s.rows edge.from q && same_name edge.to q) ≡ true
    pub source : (edge.from ≡ Content c.0) ⊎ ((p : ObjId) × ((edge.from ≡ Field p) × (has_row (part s c) p ≡ true)))

  module _ (c : CownId × Value) (here : Member c (s.held ++ s.made)) where
    abbrev rows : List Row
    rows = part s c

    content_edge : (e : Edge) → Member e (content_edges (c ∷ [])) → Member e (edges s) × (e.from ≡ Content c.0)
    content_edge e m =
        let x = Member_of_flat_map (λ (h : CownId × Value). map (λ o. record { from = Content h.0; to = o }) (targets_of_value h.1)) e (c ∷ []) m in
        let at : (e.from ≡ Content c.0) = elim x.1.0 [
          | inl y ↦ let o = Member_of_map (λ o. record { from = Content (x.0).0; to = o }) e (targets_of_value (x.0).1) x.1.1 in ap (λ (d : Edge). d.from) (sym o.1.1) ∙ ap (λ (h : CownId × Value). Content h.0) (sym y)
          | inr y ↦ absurd y
        ] in (
          Member_right e (slot_edges s.slots) _ (Member_right e (rows_edges s.rows) _ (elim (Member_of_append c s.held s.made here) [
            | inl h ↦ Member_left e (content_edges s.held) _ (Member_flat_map _ c e s.held h (elim x.1.0 [ inl y ↦ subst (λ (h : CownId × Value). Member e (map (λ o. record { from = Content h.0; to = o }) (targets_of_value h.1))) (sym y) x.1.1 | inr y ↦ absurd y ]))
            | inr h ↦ Member_right e (content_edges s.held) _ (Member_left e (content_edges s.made) _ (Member_flat_map _ c e s.made h (elim x.1.0 [ inl y ↦ subst (λ (h : CownId × Value). Member e (map (λ o. record { from = Content h.0; to = o }) (targets_of_value h.1))) (sym y) x.1.1 | inr y ↦ absurd y ])))
          ])),
          at,
        )

    -- each bridge of the part has its owner there
    pub part_owner : (q : ObjId) → owner_in s.rows q ≡ Some (In q) → has_row rows q ≡ true → PartOwner c q
    part_owner q e h =
        let k : cond (same_name q q) (is_owned_by rows (alone s c) q || points_into rows (alone s c) q) (has_row rows q && points rows (alone s c) q) ≡ true = kept_stays (alone s c) distinct q (In q) e h in
        let j : (is_owned_by rows (alone s c) q || points_into rows (alone s c) q) ≡ true = ap (λ b. cond b (is_owned_by rows (alone s c) q || points_into rows (alone s c) q) (has_row rows q && points rows (alone s c) q)) (sym (same_name_itself q)) ∙ k in
        let none : points_into rows (alone s c) q ≡ false = any_none (λ (d : Edge). is_borrower s.rows d.from && is_in q (owner_in s.rows d.to)) (rows_edges rows) (λ d m. let x = edge_row rows d m in ap (λ f. is_borrower s.rows f && is_in q (owner_in s.rows d.to)) x.from ∙ ap (λ b. b && is_in q (owner_in s.rows d.to)) (false_from_ne_true _ (none_local (x.row).name))) in
        let owned : is_owned_by rows (alone s c) q ≡ true = or_first (is_owned_by rows (alone s c) q) (points_into rows (alone s c) q) j none in
        let x = any_Member (λ (d : Edge). is_owning s.rows d.from q && same_name d.to q) (rows_edges rows ++ (content_edges (c ∷ []) ++ [])) owned in
        elim (Member_of_append x.0 (rows_edges rows) (content_edges (c ∷ []) ++ []) x.1.0) [
          | inl m ↦ let y = edge_row rows x.0 m in record {
            edge = x.0;
            mem = Member_right x.0 (slot_edges s.slots) _ (Member_left x.0 (rows_edges s.rows) _ (within_edges x.0 m));
            owning = x.1.1;
            source = inr ((y.row).name, (y.from, mem_has y.row rows y.mem));
          }
          | inr m ↦ let y = content_edge x.0 (end_nil x.0 m) in record { edge = x.0; mem = y.0; owning = x.1.1; source = inl y.1 }
        ]
      where
        within_edges : (e : Edge) → Member e (rows_edges rows) → Member e (rows_edges s.rows)
        within_edges e m = Within_flat_map row_edges rows s.rows (kept_in (alone s c)) e m

        end_nil : (e : Edge) → Member e (content_edges (c ∷ []) ++ []) → Member e (content_edges (c ∷ []))
        end_nil e m = elim (Member_of_append e (content_edges (c ∷ [])) [] m) [ inl h ↦ h | inr h ↦ absurd h ]

    -- with a row its bridge is in the part
    pub part_bridge : (o r : ObjId) → owner_in s.rows o ≡ Some (In r) → has_row rows o ≡ true → has_row rows r ≡ true
    part_bridge o r e h =
        let k : cond (same_name r o) (is_owned_by rows (alone s c) r || points_into rows (alone s c) r) (has_row rows r && points rows (alone s c) o) ≡ true = kept_stays (alone s c) distinct o (In r) e h in
        elim (same_name r o) as (λ b. same_name r o ≡ b → cond b (is_owned_by rows (alone s c) r || points_into rows (alone s c) r) (has_row rows r && points rows (alone s c) o) ≡ true → has_row rows r ≡ true) [
          | true ↦ λ f g. subst (λ n. has_row rows n ≡ true) (sym (same_name_is r o f)) h
          | false ↦ λ f g. (and_parts (has_row rows r) _ g).0
        ] refl k

  module _ (c d : CownId × Value) (hc : Member c (s.held ++ s.made)) (hd : Member d (s.held ++ s.made)) (differ : c.0 ≡ d.0 → ⊥) where
    abbrev both : ObjId → Bool
    both r = has_row (part s c) r && has_row (part s d) r

    abbrev common : List ObjId
    common = filter both (bridges s)

    is_bridge_at : (q : ObjId) → Member q (bridges s) → owner_in s.rows q ≡ Some (In q)
    is_bridge_at q m = in_region q (owner_in s.rows q) (Member_of_filter (is_bridge s.rows) q (names s.rows) m).1

    bridge_in : (p : ObjId) → owner_in s.rows p ≡ Some (In p) → Member p (bridges s)
    bridge_in p e = let x = row_of s.rows p (In p) e in Member_filter (is_bridge s.rows) p (names s.rows) (subst (λ n. Member n (names s.rows)) x.name (Member_map (λ (r : Row). r.name) x.row s.rows x.mem)) (ap (is_in p) e ∙ same_name_itself p)

    -- a bridge that both parts have is owned by another one that both have
    owned_in : (q : ObjId) → Member q common → list_any (λ p. owns s p q) common ≡ true
    owned_in q m =
        let k = Member_of_filter both q (bridges s) m in
        let b = is_bridge_at q k.0 in
        let h = and_parts (has_row (part s c) q) (has_row (part s d) q) k.1 in
        let x = part_owner c hc q b h.0 in
        let y = part_owner d hd q b h.1 in
        let one : x.edge ≡ y.edge = count_one (λ (e : Edge). is_owning s.rows e.from q && same_name e.to q) (edges s) (t.whole.one_owner q (ap (is_in q) b ∙ same_name_itself q)) x.edge y.edge x.mem y.mem x.owning y.owning in
        let src : (x.edge).from ≡ (y.edge).from = ap (λ (e : Edge). e.from) one in
        elim x.source [
          | inl a ↦ absurd (elim y.source [
            | inl z ↦ differ (content_is c.0 d.0 (sym a ∙ src ∙ z))
            | inr z ↦ let w = sym a ∙ src ∙ z.1.0 in cc
          ])
          | inr a ↦ elim y.source [
            | inl z ↦ absurd (let w = sym a.1.0 ∙ src ∙ z in cc)
            | inr z ↦
                let same : a.0 ≡ z.0 = field_is a.0 z.0 (sym a.1.0 ∙ src ∙ z.1.0) in
                let own = and_parts (is_owning s.rows (x.edge).from q) (same_name (x.edge).to q) x.owning in
                let out = other_is q (owner_in s.rows a.0) (ap (λ f. is_owning s.rows f q) (sym a.1.0) ∙ own.0) in
                let top : owner_in s.rows out.region ≡ Some (In out.region) = t.whole.bridge a.0 out.region out.is in
                let in_c = part_bridge c hc a.0 out.region out.is a.1.1 in
                let in_d = part_bridge d hd a.0 out.region out.is (subst (λ n. has_row (part s d) n ≡ true) (sym same) z.1.1) in
                let there : Member out.region common = Member_filter both out.region (bridges s) (bridge_in out.region top) (and_from _ _ in_c in_d) in
                let from : is_from s.rows out.region (x.edge).from ≡ true = ap (is_from s.rows out.region) a.1.0 ∙ ap (is_in out.region) out.is ∙ same_name_itself out.region in
                let does : owns s out.region q ≡ true = and_from _ _ (not_from_false _ out.other) (and_from _ _ (ap (is_in q) b ∙ same_name_itself q) (Member_any (λ (e : Edge). is_from s.rows out.region e.from && same_name e.to q) x.edge (edges s) x.mem (and_from _ _ from own.1))) in
                Member_any (λ p. owns s p q) out.region common there does
          ]
        ]

    no_common : (q : ObjId) → Member q common → ⊥
    no_common q m = subst (Member q) t.whole.no_round (greatest_has (λ qs r. list_any (λ p. owns s p r) qs) (λ xs ys r w e. any_more (λ p. owns s p r) xs ys w e) (bridges s) common owned_in (λ z k. (Member_of_filter both z (bridges s) k).0) q m)

    -- no name is in both parts
    pub parts_apart : (o : ObjId) → has_row (part s c) o ≡ true → has_row (part s d) o ≡ true → ⊥
    parts_apart o h k = go (owner_in s.rows o) refl
      where
        go : (u : Option Owner) → owner_in s.rows o ≡ u → ⊥
        go (Some (In r)) e =
            let top = t.whole.bridge o r e in
            no_common r (Member_filter both r (bridges s) (bridge_in r top) (and_from _ _ (part_bridge c hc o r e h) (part_bridge d hd o r e k)))
        go (Some Local) e = none_local o (ap is_local_at e)
        go (Some Frozen) e = let x = row_of s.rows o Frozen e in t.whole.mutable x.row x.mem x.owner
        go None e = let x = row_there (part s c) o h in let z = sym (owner_mem s.rows distinct x.0 (kept_in (alone s c) x.0 x.1.0)) ∙ ap (owner_in s.rows) x.1.1 ∙ e in cc
