-- A region without owner may be dissolved: the state stays well-formed.
use Rattle.std.proofs.Common.{List, None, Option, Some, ap, arith, false, inl, inr, not, refl, sym, true, ◌&&◌, ◌||◌, ◌∙◌, ◌≡◌, ◌≤◌}
use Rattle.std.specs.List.{count_by}
use Rattle.lf_base.specs.declared.ids.CownId.{CownId}
use Rattle.lf_base.specs.declared.ids.ObjId.{ObjId}
use Rattle.lf_base.specs.declared.values.Owner.{Owner}
use Rattle.lf_base.specs.declared.values.Owner.TheVariants.{Frozen, In, Local}
use Rattle.lf_base.specs.DissolveResult.{dissolve_result}
use Rattle.lf_base.specs.Edges.{Content, Edge, Field, Slot, Source, edges}
use Rattle.lf_base.specs.MergeResult.{relabel_region}
use Rattle.lf_base.specs.Names.{same_name}
use Rattle.lf_base.specs.Owners.{has_row, is_bridge, is_in, or_frozen, owner_in, owner_of}
use Rattle.lf_base.specs.Ownership.{is_in_other, is_owned, is_owning, owning_edges, owns}
use Rattle.lf_base.specs.PlainState.{Row, State}
use Rattle.lf_base.specs.Sets.{Member}
use Rattle.lf_base.specs.WellFormed.{Leads, WellFormed, from_content, from_frozen, from_inner, from_row, may_lead}
use Rattle.lf_laws.proofs.Rows.OwnerTests.{in_region, frozen_target, in_not_frozen, is_or_frozen, lead_near, local_not_frozen}
use Rattle.lf_base.proofs.ListLemmas.Sublists.{sub_all, count_sub}
use Rattle.std.proofs.lemmas.Bool.{and_from, and_parts, both_ways, false_from_ne_true, or_cases}
use Rattle.lf_base.proofs.ListLemmas.Tests.{some_is}
use Rattle.lf_base.proofs.ListLemmas.Members.{Member_any}
use Rattle.lf_base.proofs.NameLemmas.SameNames.{same_name_is, same_name_itself}
use Rattle.lf_laws.proofs.Owners.OwnersGoRound.{none_above, owns_within, straight_before}
use Rattle.lf_laws.proofs.Changes.RelabelledRegion.{became, edge_before, edges_same, frozen_on, moves_keep, near_on, nothing, region_owner, swap_other, swap_region, swapped, the_new, the_same}
use Rattle.std.proofs.lemmas.Option.{none-some}

module _ (s : State) (t : WellFormed s) (r : ObjId) (own : owner_in s.rows r ≡ Some (In r)) (free : is_owned s r ≡ false) where
  abbrev rows : List Row
  rows = relabel_region s.rows r Local

  abbrev after : State
  after = dissolve_result s r

  -- no edge owns r
  not_owning : (e : Edge) → Member e (edges s) → e.to ≡ r → is_owning s.rows e.from r ≡ true → ⊥
  not_owning e m to h = both_ways _ free (Member_any (λ (d : Edge). is_owning s.rows d.from r && same_name d.to r) e (edges s) m (and_from _ _ h (ap (λ z. same_name z r) to ∙ same_name_itself r)))

  in_local : (q : ObjId) → Some Local ≡ Some (In q) → ⊥
  in_local q e = cc

  -- a row that is in a region after was in it before, and it isn't r
  region_before : (o q : ObjId) → owner_in rows o ≡ Some (In q) → (owner_in s.rows o ≡ Some (In q)) × (same_name r q ≡ false)
  region_before o q h = elim (became r Local (owner_in s.rows o)) [
    | nothing e k ↦ absurd (none-some (In q) (sym k ∙ sym (region_owner r Local s.rows o) ∙ h))
    | the_new e k ↦ absurd (in_local q (sym k ∙ sym (region_owner r Local s.rows o) ∙ h))
    | the_same v e n k ↦
        let same : v ≡ In q = some_is v (In q) (sym k ∙ sym (region_owner r Local s.rows o) ∙ h) in
        (e ∙ ap Some same, ap (λ u. is_in r (Some u)) (sym same) ∙ n)
  ]

  region_on : (o q : ObjId) → owner_in s.rows o ≡ Some (In q) → same_name r q ≡ false → owner_in rows o ≡ Some (In q)
  region_on o q h n = region_owner r Local s.rows o ∙ ap (swapped r Local) h ∙ swap_other r Local (In q) n

  bridge_after : (o q : ObjId) → owner_in rows o ≡ Some (In q) → owner_in rows q ≡ Some (In q)
  bridge_after o q h = let k = region_before o q h in region_on q q (t.bridge o q k.0) k.1

  -- from a row of another region
  inner_on : (e : Edge) → Member e (edges s) → (p q : ObjId) → e.from ≡ Field p → owner_in s.rows p ≡ Some (In q) → same_name r q ≡ false → (v : Owner) → owner_of s e.to ≡ Some v → from_inner q e.to (Some v) ≡ true → from_inner q e.to (owner_of after e.to) ≡ true
  inner_on e m p q f h n Local k l = cc
  inner_on e m p q f h n Frozen k l = ap (from_inner q e.to) (frozen_on r Local s t e.to k)
  inner_on e m p q f h n (In x) k l =
      let old : owner_in s.rows e.to ≡ Some (In x) = is_or_frozen (has_row s.given e.to || has_row s.own e.to) (owner_in s.rows e.to) (In x) (in_not_frozen x) k in
      let other : same_name r x ≡ false = false_from_ne_true _ (λ z.
      let is : r ≡ x = same_name_is r x z in
      elim (or_cases (same_name q x) (same_name x e.to) l) [
        | inl y ↦ both_ways _ n (ap (same_name r) (same_name_is q x y ∙ sym is) ∙ same_name_itself r)
        | inr y ↦ not_owning e m (sym (is ∙ same_name_is x e.to y)) (ap (λ g. is_owning s.rows g r) f ∙ ap (is_in_other r) h ∙ ap not (false_from_ne_true _ (λ u. both_ways _ n (ap (same_name r) (same_name_is q r u) ∙ same_name_itself r))))
      ]) in
      ap (λ u. from_inner q e.to (or_frozen (has_row s.given e.to || has_row s.own e.to) u)) (region_on e.to x old other) ∙ l

  target_owner : (e : Edge) → Member e (edges s) → (p q : ObjId) → e.from ≡ Field p → owner_in s.rows p ≡ Some (In q) → same_name r q ≡ false → (u : Option Owner) → owner_of s e.to ≡ u → from_inner q e.to u ≡ true → from_inner q e.to (owner_of after e.to) ≡ true
  target_owner e m p q f h n None k l = cc
  target_owner e m p q f h n (Some v) k l = inner_on e m p q f h n v k l

  row_on : (e : Edge) → Member e (edges s) → (p : ObjId) → e.from ≡ Field p → (v : Owner) → owner_of s p ≡ Some v → from_row (Some v) e.to (owner_of s e.to) ≡ true → from_row (owner_of after p) e.to (owner_of after e.to) ≡ true
  row_on e m p f Frozen h l =
      ap (λ u. from_row u e.to (owner_of after e.to)) (frozen_on r Local s t p h) ∙ ap from_frozen (frozen_on r Local s t e.to (frozen_target (owner_of s e.to) l))
  row_on e m p f Local h l =
      let old : owner_in s.rows p ≡ Some Local = is_or_frozen (has_row s.given p || has_row s.own p) (owner_in s.rows p) Local local_not_frozen h in
      ap (λ u. from_row (or_frozen (has_row s.given p || has_row s.own p) u) e.to (owner_of after e.to)) (region_owner r Local s.rows p ∙ ap (swapped r Local) old) ∙ near_on r Local s t e.to l
  row_on e m p f (In q) h l =
      let old : owner_in s.rows p ≡ Some (In q) = is_or_frozen (has_row s.given p || has_row s.own p) (owner_in s.rows p) (In q) (in_not_frozen q) h in
      elim (same_name r q) as (λ c. same_name r q ≡ c → from_row (owner_of after p) e.to (owner_of after e.to) ≡ true) [
        | true ↦ λ z.
            ap (λ u. from_row (or_frozen (has_row s.given p || has_row s.own p) u) e.to (owner_of after e.to)) (region_owner r Local s.rows p ∙ ap (swapped r Local) (old ∙ ap (λ n. Some (In n)) (sym (same_name_is r q z))) ∙ swap_region r Local)
            ∙ near_on r Local s t e.to (lead_near (Some (In q)) e.to (owner_of s e.to) l)
        | false ↦ λ z.
            ap (λ u. from_row (or_frozen (has_row s.given p || has_row s.own p) u) e.to (owner_of after e.to)) (region_on p q old z)
            ∙ target_owner e m p q f old z (owner_of s e.to) refl l
      ] refl

  source_owner : (e : Edge) → Member e (edges s) → (p : ObjId) → e.from ≡ Field p → (u : Option Owner) → owner_of s p ≡ u → from_row u e.to (owner_of s e.to) ≡ true → from_row (owner_of after p) e.to (owner_of after e.to) ≡ true
  source_owner e m p f None h l = cc
  source_owner e m p f (Some v) h l = row_on e m p f v h l

  content_on : (e : Edge) → Member e (edges s) → (c : CownId) → e.from ≡ Content c → (u : Option Owner) → owner_of s e.to ≡ u → from_content e.to u ≡ true → from_content e.to (owner_of after e.to) ≡ true
  content_on e m c f None k l = cc
  content_on e m c f (Some Local) k l = cc
  content_on e m c f (Some Frozen) k l = ap (from_content e.to) (frozen_on r Local s t e.to k)
  content_on e m c f (Some (In x)) k l =
      let old : owner_in s.rows e.to ≡ Some (In x) = is_or_frozen (has_row s.given e.to || has_row s.own e.to) (owner_in s.rows e.to) (In x) (in_not_frozen x) k in
      let other : same_name r x ≡ false = false_from_ne_true _ (λ z. not_owning e m (sym (same_name_is r x z ∙ same_name_is x e.to l)) (ap (λ g. is_owning s.rows g r) f)) in
      ap (λ u. from_content e.to (or_frozen (has_row s.given e.to || has_row s.own e.to) u)) (region_on e.to x old other) ∙ l

  lead_on : (e : Edge) → Member e (edges s) → (f : Source) → e.from ≡ f → may_lead s f e.to ≡ true → may_lead after f e.to ≡ true
  lead_on e m Slot h l = near_on r Local s t e.to l
  lead_on e m (Field p) h l = source_owner e m p h (owner_of s p) refl l
  lead_on e m (Content c) h l = content_on e m c h (owner_of s e.to) refl l

  leads_after : Leads after
  leads_after e m = let n = edge_before r Local s t e m in lead_on e n e.from refl (t.leads e n)

  other_before : (b : ObjId) (u : Option Owner) → is_in_other b (swapped r Local u) ≡ true → is_in_other b u ≡ true
  other_before b u h = elim (became r Local u) [
    | nothing e k ↦ let z : is_in_other b None ≡ true = ap (is_in_other b) (sym k) ∙ h in cc
    | the_new e k ↦ let z : is_in_other b (Some Local) ≡ true = ap (is_in_other b) (sym k) ∙ h in cc
    | the_same v e n k ↦ ap (is_in_other b) (e ∙ sym k) ∙ h
  ]

  owning_before : (f : Source) (b : ObjId) → is_owning rows f b ≡ true → is_owning s.rows f b ≡ true
  owning_before Slot b e = e
  owning_before (Field p) b e = other_before b (owner_in s.rows p) (ap (is_in_other b) (sym (region_owner r Local s.rows p)) ∙ e)
  owning_before (Content c) b e = e

  in_before : (q o : ObjId) → is_in q (owner_in rows o) ≡ true → is_in q (owner_in s.rows o) ≡ true
  in_before q o e = ap (is_in q) (region_before o q (in_region q (owner_in rows o) e)).0 ∙ same_name_itself q

  one_after : (b : ObjId) → is_bridge rows b ≡ true → owning_edges after b ≤ 1
  one_after b e =
      let one = t.one_owner b (in_before b b e) in
      omega (
        arith,
        one,
        ap (count_by (λ (d : Edge). is_owning rows d.from b && same_name d.to b)) (edges_same r Local s t),
        count_sub (λ (d : Edge). is_owning rows d.from b && same_name d.to b) (λ (d : Edge). is_owning s.rows d.from b && same_name d.to b)
            (λ d h. let k = and_parts (is_owning rows d.from b) (same_name d.to b) h in and_from _ _ (owning_before d.from b k.0) k.1) (sub_all (edges s)),
      )

  owns_old : (q x : ObjId) → owns after q x ≡ true → owns s q x ≡ true
  owns_old = owns_within s after (edge_before r Local s t) in_before

  pub dissolve_keeps : WellFormed after
  dissolve_keeps = moves_keep r Local s t local_not_frozen bridge_after leads_after one_after (straight_before s after owns_old (none_above s t.no_round))
