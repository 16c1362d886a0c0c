-- A change among the rows that stay: what stays after it is the same, whether or not the rows that must go are dropped before it.
use Rattle.std.proofs.Common.{Bool, List, Some, ap, cond, false, inl, inr, not, refl, subst, sym, true, ◌&&◌, ◌++◌, ◌||◌, ◌∙◌, ◌≡◌, ◌⊎◌}
use Rattle.std.proofs.lemmas.Bool.{and_from, and_parts, both_ways, false_from_ne_true, not-true, not_from_false, or_cases, or_left, true_from_ne_false}
use Rattle.std.proofs.Math.Bool.{or-true}
use Rattle.std.specs.List.{filter}
use Rattle.lf_base.specs.declared.ids.ObjId.{ObjId}
use Rattle.lf_base.specs.declared.values.Owner.{Owner}
use Rattle.lf_base.specs.declared.values.Owner.TheVariants.{Frozen, In, Local}
use Rattle.lf_base.specs.Edges.{Edge, Field, content_edges, edges, row_edges, rows_edges, slot_edges}
use Rattle.lf_base.specs.Kept.{is_owned_by, kept, kept_rows, points, points_into, stays_by_owner}
use Rattle.lf_base.specs.Names.{same_name}
use Rattle.lf_base.specs.Owners.{has_row, is_in, is_local_at, owner_in}
use Rattle.lf_base.specs.Ownership.{is_in_other, is_owning}
use Rattle.lf_base.specs.PlainState.{Row, State}
use Rattle.lf_base.specs.Sets.{Member}
use Rattle.lf_base.specs.Settling.{without}
use Rattle.lf_base.specs.WalkCounts.{is_borrower}
use Rattle.lf_base.specs.WellFormed.{WellFormed}
use Rattle.lf_base.proofs.ListLemmas.Filters.{Member_filter, Member_of_filter}
use Rattle.lf_base.proofs.ListLemmas.Members.{Member_any, Member_left, Member_of_append, Member_right, Within, Within_append, Within_flat_map, any_Member, any_more}
use Rattle.lf_base.proofs.ListLemmas.Tests.{by_test}
use Rattle.lf_base.proofs.NameLemmas.SameNames.{same_name_is, same_name_itself}
use Rattle.lf_laws.proofs.Dropping.KeptRows.{joined_has, kept_in, kept_stays}
use Rattle.lf_laws.proofs.Dropping.KeptState.{frozen_leads_on, lost, lost_can_go}
use Rattle.lf_laws.proofs.Dropping.RowsInPlace.{RowsInPlace, rows_in_place}
use Rattle.lf_laws.proofs.Dropping.RowsWithout.{kept_left_out}
use Rattle.lf_laws.proofs.Rows.EdgeSources.{at_content, at_frozen, at_row, at_slot, content_begins, edge_begins, slot_begins}
use Rattle.lf_laws.proofs.Rows.OwnerTests.{in_is, in_region, local_at_is, other_is}
use Rattle.lf_laws.proofs.Rows.RowEdges.{edge_row, field_is, row_edge, row_leads, to_region}
use Rattle.lf_laws.proofs.Rows.RowsByName.{Distinct, mem_has, owner_has, owner_mem, owner_there, row_of, row_there}

-- a row of a region that stays became local, or came into another region
abbrev pub Resettled : State → ObjId → Owner → Type 0
Resettled s o v = (r : ObjId) × ((owner_in s.rows o ≡ Some (In r)) × ((has_row (kept_rows s) r ≡ true) × ((v ≡ Local) ⊎ ((q : ObjId) × ((v ≡ In q) × (same_name q o ≡ false))))))

-- a change from s to t that leaves those rows where they are, and brings no edge to them
pub record AmongKept (s t : State) (gone : ObjId → Bool) : Type 0 where
  pub distinct : Distinct t.rows
  pub owners : (o : ObjId) (v : Owner) → gone o ≡ true → owner_in t.rows o ≡ Some v → (owner_in s.rows o ≡ Some v) ⊎ Resettled s o v
  pub edges : (e : Edge) → Member e (edges t) → gone e.to ≡ true → Member e (edges s)
  pub into : (o r : ObjId) → gone r ≡ true → owner_in t.rows o ≡ Some (In r) → owner_in s.rows o ≡ Some (In r)
  pub mutable : (o : ObjId) → gone o ≡ true → (has_row t.given o || has_row t.own o) ≡ true → ⊥

module _ (s : State) (w : WellFormed s) where
  abbrev gone : ObjId → Bool
  gone = lost s w

  abbrev g : RowsInPlace s
  g = rows_in_place s w

  pub gone_here : (o : ObjId) → gone o ≡ true → has_row s.rows o ≡ true
  gone_here o h = (and_parts (has_row s.rows o) _ h).0

  pub gone_goes : (o : ObjId) → gone o ≡ true → has_row (kept_rows s) o ≡ false
  gone_goes o h = not-true _ (and_parts (has_row s.rows o) _ h).1

  pub not_gone : (o : ObjId) → has_row s.rows o ≡ true → gone o ≡ false → has_row (kept_rows s) o ≡ true
  not_gone o h n = true_from_ne_false _ (λ k. both_ways _ n (and_from _ _ h (ap not k)))

  apart_names : (q r : ObjId) → has_row (kept_rows s) q ≡ true → gone r ≡ true → same_name q r ≡ false
  apart_names q r k h = false_from_ne_true _ (λ e. both_ways _ (gone_goes r h) (ap (has_row (kept_rows s)) (sym (same_name_is q r e)) ∙ k))

  -- an edge to a row that goes begins at such a row
  abbrev pub BeginsLost : Edge → Type 0
  BeginsLost e = (p : ObjId) × ((e.from ≡ Field p) × ((gone p ≡ true) × Member e (rows_edges s.rows)))

  not_left : (e : Edge) → gone e.to ≡ true → Member e (edges (without s gone)) → ⊥
  not_left e h m = both_ways _ ((lost_can_go s w).clear e m) h

  begins_at_row : (e : Edge) → Member e (rows_edges s.rows) → gone e.to ≡ true → BeginsLost e
  begins_at_row e b h =
      let x = edge_row s.rows e b in
      by_test (gone (x.row).name) (λ k. ((x.row).name, (x.from, (k, b)))) (λ k. absurd (not_left e h
      (Member_right e (slot_edges s.slots) _ (Member_left e (rows_edges (without s gone).rows) _
      (row_edge (without s gone).rows x.row e (Member_filter (λ (r : Row). not (gone r.name)) x.row s.rows x.mem (not_from_false _ k)) x.from x.to)))))

  pub begins_lost : (e : Edge) → Member e (edges s) → gone e.to ≡ true → BeginsLost e
  begins_lost e m h = elim (edge_begins s e m) [
    | at_slot f n ↦ absurd (not_left e h (Member_left e (slot_edges s.slots) _ n))
    | at_row x n f b ↦ begins_at_row e b h
    | at_content d f n ↦ absurd (not_left e h (Member_right e (slot_edges s.slots) _ (Member_right e (rows_edges (without s gone).rows) _
        (elim (Member_of_append e (content_edges s.held) (content_edges s.made) n) [
          | inl k ↦ Member_left e (content_edges s.held) _ k
          | inr k ↦ Member_right e (content_edges s.held) _ (Member_left e (content_edges s.made) _ k)
        ]))))
    | at_frozen x n f ↦ let v = owner_there s.rows g.distinct e.to (gone_here e.to h) in absurd (frozen_leads_on s w e x n f m v.owner v.is)
  ]

  module _ (t : State) (c : AmongKept s t gone) where
    begins_again : (e : Edge) → Member e (edges t) → gone e.to ≡ true → BeginsLost e
    begins_again e m h = begins_lost e (c.edges e m h) h

    rest_edges_in : Within (edges (without t gone)) (edges t)
    rest_edges_in = Within_append (slot_edges t.slots) (slot_edges t.slots) _ _ (λ x h. h)
        (Within_append (rows_edges (without t gone).rows) (rows_edges t.rows) _ _ (Within_flat_map row_edges (without t gone).rows t.rows (λ x m. (Member_of_filter (λ (r : Row). not (gone r.name)) x t.rows m).0)) (λ x h. h))

    left_leads_on : (e : Edge) → Member e (edges (without t gone)) → gone e.to ≡ true → ⊥
    left_leads_on e m h =
        let b = begins_again e (rest_edges_in e m) h in
        elim (edge_begins (without t gone) e m) [
          | at_slot f n ↦ let z = sym f ∙ b.1.0 in cc
          | at_row x n f k ↦ both_ways _ (not-true _ (Member_of_filter (λ (r : Row). not (gone r.name)) x t.rows n).1) (ap gone (sym (field_is b.0 x.name (sym b.1.0 ∙ f))) ∙ b.1.1.0)
          | at_content d f n ↦ let z = sym f ∙ b.1.0 in cc
          | at_frozen x n f ↦ c.mutable x.name (ap gone (sym (field_is b.0 x.name (sym b.1.0 ∙ f))) ∙ b.1.1.0) n
        ]

    -- the rows of before that would stay after it though they go
    abbrev held_on : Row → Bool
    held_on z = gone z.name && has_row (kept_rows t) z.name

    abbrev back : List Row
    back = filter held_on s.rows

    abbrev more : List Row
    more = kept_rows s ++ back

    near_in : Within (slot_edges t.slots ++ rows_edges (kept_rows t)) (edges t)
    near_in = Within_append (slot_edges t.slots) (slot_edges t.slots) _ _ (λ x h. h)
        (λ e m. Member_left e (rows_edges t.rows) _ (Within_flat_map row_edges (kept_rows t) t.rows (kept_in t) e m))

    abbrev BeginsBack : Edge → Type 0
    BeginsBack e = (p : ObjId) × ((e.from ≡ Field p) × ((gone p ≡ true) × (Member e (rows_edges s.rows) × Member e (rows_edges more))))

    begins_back : (e : Edge) → Member e (slot_edges t.slots ++ rows_edges (kept_rows t)) → gone e.to ≡ true → BeginsBack e
    begins_back e m h =
        let b = begins_again e (near_in e m) h in
        elim (Member_of_append e (slot_edges t.slots) (rows_edges (kept_rows t)) m) [
          | inl k ↦ let z = sym (slot_begins t.slots e k) ∙ b.1.0 in cc
          | inr k ↦
              let y = edge_row (kept_rows t) e k in
              let z = edge_row s.rows e b.1.1.1 in
              let same : (z.row).name ≡ b.0 = field_is (z.row).name b.0 (sym z.from ∙ b.1.0) in
              let here : has_row (kept_rows t) (z.row).name ≡ true = ap (has_row (kept_rows t)) (field_is (z.row).name (y.row).name (sym z.from ∙ y.from)) ∙ mem_has y.row (kept_rows t) y.mem in
              let n : Member z.row back = Member_filter held_on z.row s.rows z.mem (and_from _ _ (ap gone same ∙ b.1.1.0) here) in
              (b.0, (b.1.0, (b.1.1.0, (b.1.1.1, row_edge more z.row e (Member_right z.row (kept_rows s) back n) z.from z.to))))
        ]

    points_on : (o : ObjId) → gone o ≡ true → points (kept_rows t) t o ≡ true → points more s o ≡ true
    points_on o h e =
        let x = any_Member (λ (d : Edge). same_name d.to o) (slot_edges t.slots ++ rows_edges (kept_rows t)) e in
        let b = begins_back x.0 x.1.0 (ap gone (same_name_is (x.0).to o x.1.1) ∙ h) in
        Member_any (λ (d : Edge). same_name d.to o) x.0 (slot_edges s.slots ++ rows_edges more) (Member_right x.0 (slot_edges s.slots) (rows_edges more) b.1.1.1.1) x.1.1

    show_owned : (e : Edge) (p r : ObjId) → e.from ≡ Field p → Member e (rows_edges more) → (q : ObjId) → owner_in s.rows p ≡ Some (In q) → same_name q r ≡ false → same_name e.to r ≡ true → is_owned_by more s r ≡ true
    show_owned e p r f m q own other to = Member_any (λ (d : Edge). is_owning s.rows d.from r && same_name d.to r) e (rows_edges more ++ (content_edges s.held ++ content_edges s.made)) (Member_left e (rows_edges more) _ m)
        (and_from _ _ (ap (λ z. is_owning s.rows z r) f ∙ ap (is_in_other r) own ∙ not_from_false _ other) to)

    owned_on : (r : ObjId) → gone r ≡ true → is_owned_by (kept_rows t) t r ≡ true → is_owned_by more s r ≡ true
    owned_on r h e =
        let x = any_Member (λ (d : Edge). is_owning t.rows d.from r && same_name d.to r) (rows_edges (kept_rows t) ++ (content_edges t.held ++ content_edges t.made)) e in
        let k = and_parts (is_owning t.rows (x.0).from r) (same_name (x.0).to r) x.1.1 in
        let to : gone (x.0).to ≡ true = ap gone (same_name_is (x.0).to r k.1) ∙ h in
        elim (Member_of_append x.0 (rows_edges (kept_rows t)) (content_edges t.held ++ content_edges t.made) x.1.0) [
          | inl n ↦
              let b = begins_back x.0 (Member_right x.0 (slot_edges t.slots) (rows_edges (kept_rows t)) n) to in
              let u = other_is r (owner_in t.rows b.0) (ap (λ z. is_owning t.rows z r) (sym b.1.0) ∙ k.0) in
              elim (c.owners b.0 (In u.region) b.1.1.0 u.is) [
                | inl same ↦ show_owned x.0 b.0 r b.1.0 b.1.1.1.1 u.region same u.other k.1
                | inr moved ↦ show_owned x.0 b.0 r b.1.0 b.1.1.1.1 moved.0 moved.1.0 (apart_names moved.0 r moved.1.1.0 h) k.1
              ]
          | inr n ↦ absurd (from_content x.0 to n)
        ]
      where
        from_content : (e : Edge) → gone e.to ≡ true → Member e (content_edges t.held ++ content_edges t.made) → ⊥
        from_content e h n =
            let b = begins_again e (Member_right e (slot_edges t.slots) _ (Member_right e (rows_edges t.rows) _ (elim (Member_of_append e (content_edges t.held) (content_edges t.made) n) [
              | inl j ↦ Member_left e (content_edges t.held) _ j
              | inr j ↦ Member_right e (content_edges t.held) _ (Member_left e (content_edges t.made) _ j)
            ]))) h in
            elim (Member_of_append e (content_edges t.held) (content_edges t.made) n) [
              | inl j ↦ let y = content_begins t.held e j in let z = sym y.1 ∙ b.1.0 in cc
              | inr j ↦ let y = content_begins t.made e j in let z = sym y.1 ∙ b.1.0 in cc
            ]

    abbrev Justified : ObjId → Type 0
    Justified r = (is_owned_by more s r || points_into more s r) ≡ true

    by_owned : (r : ObjId) → is_owned_by more s r ≡ true → Justified r
    by_owned r e = or_left _ _ e

    by_into : (r : ObjId) → points_into more s r ≡ true → Justified r
    by_into r e = ap (λ b. is_owned_by more s r || b) e ∙ or-true (is_owned_by more s r)

    -- an edge into a region that stays not, from a row that was in a region that stays
    leads_out : (e : Edge) (p r q : ObjId) → gone r ≡ true → e.from ≡ Field p → Member e (rows_edges s.rows) → Member e (rows_edges more) → owner_in s.rows e.to ≡ Some (In r) → owner_in s.rows p ≡ Some (In q) → has_row (kept_rows s) q ≡ true → Justified r
    leads_out e p r q h f m n to own k =
        let y = row_of s.rows p (In q) own in
        let l = row_leads s g.distinct w.leads y.row y.mem e (Member_right e (slot_edges s.slots) _ (Member_left e (rows_edges s.rows) _ m)) (f ∙ ap Field (sym y.name)) (In r) to in
        elim (to_region (y.row).owner e.to r l) [
          | inl z ↦ let u : In q ≡ Local = sym y.owner ∙ z in cc
          | inr (inl z) ↦ absurd (both_ways _ (apart_names q r k h) (ap (same_name q) (in_is r q (sym z ∙ y.owner)) ∙ same_name_itself q))
          | inr (inr z) ↦ by_owned r (show_owned e p r f n q own (apart_names q r k h) (ap (λ x. same_name x r) (sym z.1.1.1) ∙ same_name_itself r))
        ]

    into_on : (r : ObjId) → gone r ≡ true → points_into (kept_rows t) t r ≡ true → Justified r
    into_on r h e =
        let x = any_Member (λ (d : Edge). is_borrower t.rows d.from && is_in r (owner_in t.rows d.to)) (slot_edges t.slots ++ rows_edges (kept_rows t)) e in
        let k = and_parts (is_borrower t.rows (x.0).from) (is_in r (owner_in t.rows (x.0).to)) x.1.1 in
        let own : owner_in s.rows (x.0).to ≡ Some (In r) = c.into (x.0).to r h (in_region r (owner_in t.rows (x.0).to) k.1) in
        let b = begins_back x.0 x.1.0 ((lost_can_go s w).whole (x.0).to r own h) in
        let near : owner_in t.rows b.0 ≡ Some Local = local_at_is (owner_in t.rows b.0) (ap (is_borrower t.rows) (sym b.1.0) ∙ k.0) in
        elim (c.owners b.0 Local b.1.1.0 near) [
          | inl same ↦ by_into r (Member_any (λ (d : Edge). is_borrower s.rows d.from && is_in r (owner_in s.rows d.to)) x.0 (slot_edges s.slots ++ rows_edges more) (Member_right x.0 (slot_edges s.slots) (rows_edges more) b.1.1.1.1)
              (and_from _ _ (ap (is_borrower s.rows) b.1.0 ∙ ap is_local_at same) (ap (is_in r) own ∙ same_name_itself r)))
          | inr moved ↦ leads_out x.0 b.0 r moved.0 h b.1.0 b.1.1.1.0 b.1.1.1.1 own moved.1.0 moved.1.1.0
        ]

    bridge_on : (o r : ObjId) → owner_in s.rows o ≡ Some (In r) → has_row (kept_rows t) r ≡ true → has_row more r ≡ true
    bridge_on o r own e =
        let y = row_of s.rows r (In r) (w.bridge o r own) in
        by_test (gone r)
        (λ h. subst (λ n. has_row more n ≡ true) y.name (mem_has y.row more (Member_right y.row (kept_rows s) back (Member_filter held_on y.row s.rows y.mem (and_from _ _ (ap gone y.name ∙ h) (ap (has_row (kept_rows t)) y.name ∙ e))))))
        (λ h. kept_more r (not_gone r (owner_has s.rows r (In r) (w.bridge o r own)) h))
      where
        kept_more : (q : ObjId) → has_row (kept_rows s) q ≡ true → has_row more q ≡ true
        kept_more q e = any_more (λ (x : Row). same_name x.name q) (kept_rows s) more (λ x m. Member_left x (kept_rows s) back m) e

    justified_same : (o : ObjId) (u : Owner) → gone o ≡ true → owner_in s.rows o ≡ Some u → stays_by_owner t (kept_rows t) o u ≡ true → stays_by_owner s more o u ≡ true
    justified_same o Local h own e = points_on o h e
    justified_same o Frozen h own e = refl
    justified_same o (In r) h own e =
        elim (same_name r o) as (λ b. same_name r o ≡ b → cond b (is_owned_by (kept_rows t) t r || points_into (kept_rows t) t r) (has_row (kept_rows t) r && points (kept_rows t) t o) ≡ true → cond b (is_owned_by more s r || points_into more s r) (has_row more r && points more s o) ≡ true) [
          | true ↦ λ n k.
              let hr : gone r ≡ true = ap gone (same_name_is r o n) ∙ h in
              elim (or_cases (is_owned_by (kept_rows t) t r) (points_into (kept_rows t) t r) k) [
                | inl a ↦ by_owned r (owned_on r hr a)
                | inr a ↦ into_on r hr a
              ]
          | false ↦ λ n k. let p = and_parts (has_row (kept_rows t) r) (points (kept_rows t) t o) k in and_from _ _ (bridge_on o r own p.0) (points_on o h p.1)
        ] refl e

    points_moved : (o : ObjId) (v : Owner) → (v ≡ Local) ⊎ ((q : ObjId) × ((v ≡ In q) × (same_name q o ≡ false))) → stays_by_owner t (kept_rows t) o v ≡ true → points (kept_rows t) t o ≡ true
    points_moved o v (inl l) e = ap (stays_by_owner t (kept_rows t) o) (sym l) ∙ e
    points_moved o v (inr (q, (i, n))) e =
        (and_parts (has_row (kept_rows t) q) (points (kept_rows t) t o)
        (ap (λ b. cond b (is_owned_by (kept_rows t) t q || points_into (kept_rows t) t q) (has_row (kept_rows t) q && points (kept_rows t) t o)) (sym n) ∙ ap (stays_by_owner t (kept_rows t) o) (sym i) ∙ e)).1

    justified_moved : (o r : ObjId) → gone o ≡ true → has_row (kept_rows s) r ≡ true → points (kept_rows t) t o ≡ true → stays_by_owner s more o (In r) ≡ true
    justified_moved o r h k e =
        ap (λ b. cond b (is_owned_by more s r || points_into more s r) (has_row more r && points more s o)) (apart_names r o k h)
        ∙ and_from _ _ (any_more (λ (x : Row). same_name x.name r) (kept_rows s) more (λ x m. Member_left x (kept_rows s) back m) k) (points_on o h e)

    justified_back : (z : Row) → Member z back → Member z s.rows × (stays_by_owner s more z.name z.owner ≡ true)
    justified_back z m =
        let f = Member_of_filter held_on z s.rows m in
        let h = and_parts (gone z.name) (has_row (kept_rows t) z.name) f.1 in
        let y = row_there (kept_rows t) z.name h.1 in
        let own : owner_in s.rows z.name ≡ Some (z.owner) = owner_mem s.rows g.distinct z f.0 in
        let after : owner_in t.rows z.name ≡ Some ((y.0).owner) = subst (λ n. owner_in t.rows n ≡ Some ((y.0).owner)) y.1.1 (owner_mem t.rows c.distinct y.0 (kept_in t y.0 y.1.0)) in
        let e = kept_stays t c.distinct z.name (y.0).owner after h.1 in (
          f.0,
          elim (c.owners z.name (y.0).owner h.0 after) [
            | inl same ↦
                let u : (y.0).owner ≡ z.owner = some_of (sym same ∙ own) in
                justified_same z.name z.owner h.0 own (ap (stays_by_owner t (kept_rows t) z.name) (sym u) ∙ e)
            | inr moved ↦
                let u : z.owner ≡ In moved.0 = some_of (sym own ∙ moved.1.0) in
                ap (stays_by_owner s more z.name) u ∙ justified_moved z.name moved.0 h.0 moved.1.1.0 (points_moved z.name (y.0).owner moved.1.1.1 e)
          ],
        )
      where
        some_of : {a b : Owner} → Some a ≡ Some b → a ≡ b
        some_of e = cc

    none_held_on : (x : Row) → Member x (kept_rows t) → gone x.name ≡ true → ⊥
    none_held_on x m h =
        let z = row_there s.rows x.name (gone_here x.name h) in
        let n : Member z.0 back = Member_filter held_on z.0 s.rows z.1.0 (and_from _ _ (ap gone z.1.1 ∙ h) (ap (has_row (kept_rows t)) z.1.1 ∙ mem_has x (kept_rows t) m)) in
        both_ways _ (gone_goes x.name h) (ap (has_row (kept_rows s)) (sym z.1.1) ∙ mem_has z.0 (kept_rows s) (joined_has s back justified_back z.0 n))

    pub kept_among : kept (without t gone) ≡ kept t
    kept_among = ap (λ rows. record t { rows = rows }) (kept_left_out t c.distinct gone (record {
      none_stays = λ x m. false_from_ne_true _ (none_held_on x m);
      clear = λ e m. false_from_ne_true _ (left_leads_on e m);
    }))
