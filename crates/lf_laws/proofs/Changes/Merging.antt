-- Two regions that may be merged leave a well-formed state.
use Rattle.std.proofs.Common.{Bool, List, None, Option, Some, [], ap, ap₂, arith, cond, false, inl, inr, not, refl, subst, sym, true, ◌&&◌, ◌||◌, ◌∙◌, ◌∷◌, ◌≡◌, ◌≤◌, ◌⊎◌}
use Rattle.std.specs.List.{count_by}
use Rattle.lf_base.specs.declared.faults.Fault.{Fault}
use Rattle.lf_base.specs.declared.faults.Fault.TheVariants.{Cycle, Owned}
use Rattle.lf_base.specs.declared.ids.CownId.{CownId}
use Rattle.lf_base.specs.declared.ids.ObjId.{ObjId}
use Rattle.lf_base.specs.declared.values.Owner.{Owner}
use Rattle.lf_base.specs.declared.values.Owner.TheVariants.{Frozen, In, Local}
use Rattle.lf_base.specs.declared.values.Value.{Value}
use Rattle.lf_base.specs.DissolveResult.{dissolve_refusal, dissolve_refusal_by, dissolve_result}
use Rattle.lf_base.specs.Edges.{Content, Edge, Field, Slot, Source, edges}
use Rattle.lf_base.specs.MergeResult.{is_owned_elsewhere, is_owning_elsewhere, lies_in, merge_fault, merge_refusal, merge_refusal_by, merge_result, relabel_region}
use Rattle.lf_base.specs.Names.{same_name, targets_of_value}
use Rattle.lf_base.specs.Owners.{bridge_of, first_bridge, has_name, has_row, is_bridge, is_in, or_frozen, owner_in, owner_of}
use Rattle.lf_base.specs.Ownership.{Above, NoRound, below, direct, is_from, is_in_other, is_owned, is_owning, owning_edges, owns, step}
use Rattle.lf_base.specs.PlainState.{Row, State}
use Rattle.lf_base.specs.Sets.{Member}
use Rattle.lf_base.specs.WellFormed.{Leads, WellFormed, from_content, from_frozen, from_inner, from_row, may_lead}
use Rattle.lf_laws.proofs.Owners.NewOwner.{straight_after}
use Rattle.lf_laws.proofs.Changes.Dissolving.{dissolve_keeps}
use Rattle.lf_laws.proofs.Rows.OwnerTests.{in_region, in_is, frozen_target, in_not_frozen, is_or_frozen, local_not_frozen, other_is}
use Rattle.lf_base.proofs.ListLemmas.Sublists.{sub_all, count_sub}
use Rattle.std.proofs.lemmas.Bool.{and_from, and_parts, both_ways, false_from_ne_true, not-true, or_left, or_cases, true_from_ne_false}
use Rattle.lf_base.proofs.ListLemmas.Tests.{some_is, count_one}
use Rattle.lf_laws.proofs.Rows.RowsByName.{owner_is, Member_has_name}
use Rattle.lf_base.proofs.ListLemmas.Members.{Member_any, any_Member}
use Rattle.std.proofs.Math.Bool.{or-true}
use Rattle.lf_base.proofs.NameLemmas.SameNames.{same_name_is, same_name_itself}
use Rattle.lf_laws.proofs.Owners.OwnersGoRound.{none_above}
use Rattle.lf_laws.proofs.Owners.PathsOfSets.{below_path}
use Rattle.lf_laws.proofs.Changes.RelabelledRegion.{became, edge_before, edges_same, frozen_on, in_that, moves_keep, near_on, nothing, region_owner, swap_other, swap_region, swapped, the_new, the_same}
use Rattle.lf_laws.proofs.Rows.RowEdges.{field_is}
use Rattle.std.proofs.lemmas.Option.{none-some}

-- an edge by which region q owns r
pub record OwnedBy (s : State) (q r : ObjId) : Type 0 where
  pub edge : Edge
  pub mem : Member edge (edges s)
  pub name : ObjId
  pub from : edge.from ≡ Field name
  pub owner : owner_in s.rows name ≡ Some (In q)
  pub to : edge.to ≡ r
  pub other : same_name q r ≡ false
  pub bridge : owner_in s.rows r ≡ Some (In r)

from_row_of : (rows : List Row) (q : ObjId) (f : Source) → is_from rows q f ≡ true → (p : ObjId) × ((f ≡ Field p) × (owner_in rows p ≡ Some (In q)))
from_row_of rows q Slot e = cc
from_row_of rows q (Field p) e = (p, (refl, in_region q (owner_in rows p) e))
from_row_of rows q (Content c) e = cc

pub owned_by : (s : State) (q r : ObjId) → owns s q r ≡ true → OwnedBy s q r
owned_by s q r e =
    let a = and_parts (not (same_name q r)) _ e in
    let b = and_parts (is_bridge s.rows r) _ a.1 in
    let x = any_Member (λ (d : Edge). is_from s.rows q d.from && same_name d.to r) (edges s) b.1 in
    let p = and_parts (is_from s.rows q (x.0).from) (same_name (x.0).to r) x.1.1 in
    let f = from_row_of s.rows q (x.0).from p.0 in
    record { edge = x.0; mem = x.1.0; name = f.0; from = f.1.0; owner = f.1.1; to = same_name_is (x.0).to r p.1; other = not-true _ a.0; bridge = in_region r (owner_in s.rows r) b.0 }

owning_edge : (s : State) (q r : ObjId) → (o : OwnedBy s q r) → (is_owning s.rows (o.edge).from r && same_name (o.edge).to r) ≡ true
owning_edge s q r o = and_from _ _ (ap (λ f. is_owning s.rows f r) o.from ∙ ap (is_in_other r) o.owner ∙ ap not o.other) (ap (λ z. same_name z r) o.to ∙ same_name_itself r)

-- two owners are one
pub one_owner_only : (s : State) → WellFormed s → (q p r : ObjId) → owns s q r ≡ true → owns s p r ≡ true → q ≡ p
one_owner_only s t q p r e h =
    let x = owned_by s q r e in
    let y = owned_by s p r h in
    let same : x.edge ≡ y.edge = count_one (λ (d : Edge). is_owning s.rows d.from r && same_name d.to r) (edges s) (t.one_owner r (ap (is_in r) x.bridge ∙ same_name_itself r)) x.edge y.edge x.mem y.mem (owning_edge s q r x) (owning_edge s p r y) in
    let name : x.name ≡ y.name = field_is x.name y.name (sym x.from ∙ ap (λ (d : Edge). d.from) same ∙ y.from) in
    in_is q p (owner_is s.rows y.name (In q) (In p) (ap (owner_in s.rows) (sym name) ∙ x.owner) y.owner)

-- the last owner on the way down
pub last_owner : (s : State) {x a : ObjId} → Above s x a → (y : ObjId) × ((owns s y a ≡ true) × ((y ≡ x) ⊎ Above s x y))
last_owner s (direct {q} {r} e) = (q, (e, inl refl))
last_owner s (step {q} {p} {r} e a) = let l = last_owner s a in (l.0, (l.1.0, elim l.1.1 [ inl h ↦ inr (direct (ap (owns s q) h ∙ e)) | inr h ↦ inr (step e h) ]))

module _ (s : State) (t : WellFormed s) (a b : ObjId) (own_a : owner_in s.rows a ≡ Some (In a)) (own_b : owner_in s.rows b ≡ Some (In b)) (two : same_name a b ≡ false)
    (free : is_owned_elsewhere s a b ≡ false) (flat : (has_name (below s b) a && not (owns s b a)) ≡ false) where
  abbrev rows : List Row
  rows = relabel_region s.rows b (In a)

  abbrev after : State
  after = merge_result s a b

  apart : same_name b a ≡ false
  apart = false_from_ne_true _ (λ e. both_ways _ two (ap (same_name a) (same_name_is b a e) ∙ same_name_itself a))

  -- an edge that owns b comes from region a
  from_a : (e : Edge) → Member e (edges s) → e.to ≡ b → is_owning s.rows e.from b ≡ true → is_from s.rows a e.from ≡ true
  from_a e m to h = true_from_ne_false _ (λ n. both_ways _ free (Member_any (λ (d : Edge). is_owning_elsewhere s.rows a b d.from && same_name d.to b) e (edges s) m (and_from _ _ (and_from _ _ h (ap not n)) (ap (λ z. same_name z b) to ∙ same_name_itself b))))

  moved_owner : (o : ObjId) → owner_in s.rows o ≡ Some (In b) → owner_in rows o ≡ Some (In a)
  moved_owner o h = region_owner b (In a) s.rows o ∙ ap (swapped b (In a)) h ∙ swap_region b (In a)

  still_owner : (o : ObjId) (v : Owner) → owner_in s.rows o ≡ Some v → is_in b (Some v) ≡ false → owner_in rows o ≡ Some v
  still_owner o v h n = region_owner b (In a) s.rows o ∙ ap (swapped b (In a)) h ∙ swap_other b (In a) v n

  abbrev froze : ObjId → Bool
  froze o = has_row s.given o || has_row s.own o

  in_or : (o x : ObjId) → owner_of s o ≡ Some (In x) → owner_in s.rows o ≡ Some (In x)
  in_or o x h = is_or_frozen (froze o) (owner_in s.rows o) (In x) (in_not_frozen x) h

  -- from a row that was in region q and isn't in b
  other_on : (e : Edge) → Member e (edges s) → (p q : ObjId) → e.from ≡ Field p → owner_in s.rows p ≡ Some (In q) → same_name b q ≡ false → (u : Option Owner) → owner_of s e.to ≡ u → from_inner q e.to u ≡ true → from_inner q e.to (owner_of after e.to) ≡ true
  other_on e m p q f h n None k l = cc
  other_on e m p q f h n (Some Local) k l = cc
  other_on e m p q f h n (Some Frozen) k l = ap (from_inner q e.to) (frozen_on b (In a) s t e.to k)
  other_on e m p q f h n (Some (In x)) k l =
      elim (same_name b x) as (λ c. same_name b x ≡ c → from_inner q e.to (owner_of after e.to) ≡ true) [
        | true ↦ λ z.
            let is : b ≡ x = same_name_is b x z in
            let not_q : same_name q x ≡ false = false_from_ne_true _ (λ y. both_ways _ n (ap (same_name b) (same_name_is q x y ∙ sym is) ∙ same_name_itself b)) in
            let to : e.to ≡ b = elim (or_cases (same_name q x) (same_name x e.to) l) [ inl y ↦ absurd (both_ways _ not_q y) | inr y ↦ sym (is ∙ same_name_is x e.to y) ] in
            let owning : is_owning s.rows e.from b ≡ true = ap (λ g. is_owning s.rows g b) f ∙ ap (is_in_other b) h ∙ ap not (ap (same_name q) is ∙ not_q) in
            let home : a ≡ q = same_name_is a q (ap (is_in a) (sym h) ∙ ap (is_from s.rows a) (sym f) ∙ from_a e m to owning) in
            ap (λ u. from_inner q e.to (or_frozen (froze e.to) u)) (moved_owner e.to (in_or e.to x k ∙ ap (λ z. Some (In z)) (sym is)))
            ∙ or_left _ _ (ap (same_name q) home ∙ same_name_itself q)
        | false ↦ λ z. ap (λ u. from_inner q e.to (or_frozen (froze e.to) u)) (still_owner e.to (In x) (in_or e.to x k) z) ∙ l
      ] refl

  -- from a row that was in b
  moved_on : (e : Edge) → Member e (edges s) → (u : Option Owner) → owner_of s e.to ≡ u → from_inner b e.to u ≡ true → from_inner a e.to (owner_of after e.to) ≡ true
  moved_on e m None k l = cc
  moved_on e m (Some Local) k l = cc
  moved_on e m (Some Frozen) k l = ap (from_inner a e.to) (frozen_on b (In a) s t e.to k)
  moved_on e m (Some (In x)) k l =
      elim (same_name b x) as (λ c. same_name b x ≡ c → from_inner a e.to (owner_of after e.to) ≡ true) [
        | true ↦ λ z. ap (λ u. from_inner a e.to (or_frozen (froze e.to) u)) (moved_owner e.to (in_or e.to x k ∙ ap (λ y. Some (In y)) (sym (same_name_is b x z)))) ∙ or_left _ _ (same_name_itself a)
        | false ↦ λ z.
            let bridge : same_name x e.to ≡ true = elim (or_cases (same_name b x) (same_name x e.to) l) [ inl y ↦ absurd (both_ways _ z y) | inr y ↦ y ] in
            ap (λ u. from_inner a e.to (or_frozen (froze e.to) u)) (still_owner e.to (In x) (in_or e.to x k) z) ∙ ap (λ c. same_name a x || c) bridge ∙ or-true _
      ] refl

  row_on : (e : Edge) → Member e (edges s) → (p : ObjId) → e.from ≡ Field p → (u : Option Owner) → owner_of s p ≡ u → from_row u e.to (owner_of s e.to) ≡ true → from_row (owner_of after p) e.to (owner_of after e.to) ≡ true
  row_on e m p f None h l = cc
  row_on e m p f (Some Frozen) h l = ap (λ u. from_row u e.to (owner_of after e.to)) (frozen_on b (In a) s t p h) ∙ ap from_frozen (frozen_on b (In a) s t e.to (frozen_target (owner_of s e.to) l))
  row_on e m p f (Some Local) h l =
      ap (λ u. from_row (or_frozen (froze p) u) e.to (owner_of after e.to)) (still_owner p Local (is_or_frozen (froze p) (owner_in s.rows p) Local local_not_frozen h) refl) ∙ near_on b (In a) s t e.to l
  row_on e m p f (Some (In q)) h l =
      elim (same_name b q) as (λ c. same_name b q ≡ c → from_row (owner_of after p) e.to (owner_of after e.to) ≡ true) [
        | true ↦ λ z. ap (λ u. from_row (or_frozen (froze p) u) e.to (owner_of after e.to)) (moved_owner p (in_or p q h ∙ ap (λ y. Some (In y)) (sym (same_name_is b q z))))
            ∙ moved_on e m (owner_of s e.to) refl (ap (λ y. from_inner y e.to (owner_of s e.to)) (same_name_is b q z) ∙ l)
        | false ↦ λ z. ap (λ u. from_row (or_frozen (froze p) u) e.to (owner_of after e.to)) (still_owner p (In q) (in_or p q h) z)
            ∙ other_on e m p q f (in_or p q h) z (owner_of s e.to) refl l
      ] refl

  content_on : (e : Edge) → Member e (edges s) → (c : CownId) → e.from ≡ Content c → (u : Option Owner) → owner_of s e.to ≡ u → from_content e.to u ≡ true → from_content e.to (owner_of after e.to) ≡ true
  content_on e m c f None k l = cc
  content_on e m c f (Some Local) k l = cc
  content_on e m c f (Some Frozen) k l = ap (from_content e.to) (frozen_on b (In a) s t e.to k)
  content_on e m c f (Some (In x)) k l =
      let other : same_name b x ≡ false = false_from_ne_true _ (λ z.
      let y : is_from s.rows a (Content c) ≡ true = ap (is_from s.rows a) (sym f) ∙ from_a e m (sym (same_name_is b x z ∙ same_name_is x e.to l)) (ap (λ g. is_owning s.rows g b) f) in
      cc) in
      ap (λ u. from_content e.to (or_frozen (froze e.to) u)) (still_owner e.to (In x) (in_or e.to x k) other) ∙ l

  lead_on : (e : Edge) → Member e (edges s) → (f : Source) → e.from ≡ f → may_lead s f e.to ≡ true → may_lead after f e.to ≡ true
  lead_on e m Slot h l = near_on b (In a) s t e.to l
  lead_on e m (Field p) h l = row_on e m p h (owner_of s p) refl l
  lead_on e m (Content c) h l = content_on e m c h (owner_of s e.to) refl l

  leads_after : Leads after
  leads_after e m = let n = edge_before b (In a) s t e m in lead_on e n e.from refl (t.leads e n)

  -- where a row in region q was before
  abbrev Before : ObjId → ObjId → Type 0
  Before o q = ((owner_in s.rows o ≡ Some (In b)) × (q ≡ a)) ⊎ ((owner_in s.rows o ≡ Some (In q)) × (same_name b q ≡ false))

  was_in : (o q : ObjId) → owner_in rows o ≡ Some (In q) → Before o q
  was_in o q h = elim (became b (In a) (owner_in s.rows o)) [
    | nothing e k ↦ absurd (none-some (In q) (sym k ∙ sym (region_owner b (In a) s.rows o) ∙ h))
    | the_new e k ↦ inl (e, in_is q a (some_is (In q) (In a) (sym h ∙ region_owner b (In a) s.rows o ∙ k)))
    | the_same v e n k ↦
        let same : v ≡ In q = some_is v (In q) (sym k ∙ sym (region_owner b (In a) s.rows o) ∙ h) in
        inr (e ∙ ap Some same, ap (λ u. is_in b (Some u)) (sym same) ∙ n)
  ]

  a_stays : owner_in rows a ≡ Some (In a)
  a_stays = still_owner a (In a) own_a apart

  bridge_after : (o q : ObjId) → owner_in rows o ≡ Some (In q) → owner_in rows q ≡ Some (In q)
  bridge_after o q h = elim (was_in o q h) [
    | inl k ↦ subst (λ z. owner_in rows z ≡ Some (In z)) (sym k.1) a_stays
    | inr k ↦ still_owner q (In q) (t.bridge o q k.0) k.1
  ]

  -- a bridge after was one before, and isn't b
  bridge_before : (x : ObjId) → is_bridge rows x ≡ true → (owner_in s.rows x ≡ Some (In x)) × (same_name b x ≡ false)
  bridge_before x e = elim (was_in x x (in_region x (owner_in rows x) e)) [
    | inl k ↦ absurd (both_ways _ two (ap (λ z. same_name z b) (in_is a b (owner_is s.rows a (In a) (In b) own_a (ap (owner_in s.rows) (sym k.1) ∙ k.0))) ∙ same_name_itself b))
    | inr k ↦ k
  ]

  owning_before : (x : ObjId) → same_name b x ≡ false → (f : Source) → is_owning rows f x ≡ true → is_owning s.rows f x ≡ true
  owning_before x n Slot e = e
  owning_before x n (Content c) e = e
  owning_before x n (Field p) e =
      let o = other_is x (owner_in rows p) e in
      elim (was_in p o.region o.is) [
        | inl k ↦ ap (is_in_other x) k.0 ∙ ap not n
        | inr k ↦ ap (is_in_other x) k.0 ∙ ap not o.other
      ]

  one_after : (x : ObjId) → is_bridge rows x ≡ true → owning_edges after x ≤ 1
  one_after x e =
      let k = bridge_before x e in
      let one = t.one_owner x (ap (is_in x) k.0 ∙ same_name_itself x) in
      omega (
        arith,
        one,
        ap (count_by (λ (d : Edge). is_owning rows d.from x && same_name d.to x)) (edges_same b (In a) s t),
        count_sub (λ (d : Edge). is_owning rows d.from x && same_name d.to x) (λ (d : Edge). is_owning s.rows d.from x && same_name d.to x)
            (λ d h. let p = and_parts (is_owning rows d.from x) (same_name d.to x) h in and_from _ _ (owning_before x k.1 d.from p.0) p.1) (sub_all (edges s)),
      )

  -- what a owns besides, after
  abbrev New : ObjId → Type 0
  New x = (owns s b x ≡ true) × (same_name a x ≡ false)

  owns_join : (q x : ObjId) → same_name q x ≡ false → owner_in s.rows x ≡ Some (In x) → (e : Edge) → Member e (edges s) → (p : ObjId) → e.from ≡ Field p → owner_in s.rows p ≡ Some (In q) → same_name e.to x ≡ true → owns s q x ≡ true
  owns_join q x n o e m p f h to = and_from _ _ (ap not n) (and_from _ _ (ap (is_in x) o ∙ same_name_itself x)
      (Member_any (λ (d : Edge). is_from s.rows q d.from && same_name d.to x) e (edges s) m (and_from _ _ (ap (is_from s.rows q) f ∙ ap (is_in q) h ∙ same_name_itself q) to)))

  old_or_new : (q x : ObjId) → owns after q x ≡ true → (owns s q x ≡ true) ⊎ ((q ≡ a) × New x)
  old_or_new q x e =
      let o = owned_by after q x e in
      let k = bridge_before x (ap (is_in x) o.bridge ∙ same_name_itself x) in
      let m = edge_before b (In a) s t o.edge o.mem in
      let to : same_name (o.edge).to x ≡ true = ap (λ z. same_name z x) o.to ∙ same_name_itself x in
      elim (was_in o.name q o.owner) [
        | inl h ↦ inr (h.1, (owns_join b x k.1 k.0 o.edge m o.name o.from h.0 to, ap (λ z. same_name z x) (sym h.1) ∙ o.other))
        | inr h ↦ inl (owns_join q x o.other k.0 o.edge m o.name o.from h.0 to)
      ]

  straight : NoRound s
  straight = none_above s t.no_round

  clear : (x : ObjId) → New x → Above s x a → ⊥
  clear x n up =
      let down : has_name (below s b) a ≡ true = Member_has_name a (below s b) ((below_path s b a).1 (step n.0 up)) in
      let own : owns s b a ≡ true = true_from_ne_false _ (λ z. both_ways _ flat (and_from _ _ down (ap not z))) in
      let l = last_owner s up in
      let same : l.0 ≡ b = one_owner_only s t l.0 b a l.1.0 own in
      elim l.1.1 [
        | inl h ↦ straight b (direct (ap (owns s b) (sym same ∙ h) ∙ n.0))
        | inr h ↦ straight b (step n.0 (subst (λ z. Above s x z) same h))
      ]

  pub merge_keeps_two : WellFormed after
  merge_keeps_two = moves_keep b (In a) s t (in_not_frozen a) bridge_after leads_after one_after
      (straight_after s after a New (record { old_or_new = old_or_new; not_itself = λ n. both_ways _ n.1 (same_name_itself a) }) straight clear)

-- a region merged with itself stays
merge_itself : (rows : List Row) (b : ObjId) → relabel_region rows b (In b) ≡ rows
merge_itself [] b = refl
merge_itself (x ∷ xs) b = elim (lies_in b x) as (λ c. lies_in b x ≡ c → cond c (record x { owner = In b }) x ∷ relabel_region xs b (In b) ≡ x ∷ xs) [
  | true ↦ λ e. (λ i. record x { owner = sym (in_that b (In b) (x.owner) e) i } ∷ merge_itself xs b i)
  | false ↦ λ e. ap (λ l. x ∷ l) (merge_itself xs b)
] refl

not_some : {X : Type 0} (v : X) → Some v ≡ None → ⊥
not_some v e = cc

cond_none : (c : Bool) (f : Fault) (o : Option Fault) → cond c (Some f) o ≡ None → (c ≡ false) × (o ≡ None)
cond_none true f o e = absurd (not_some f e)
cond_none false f o e = (refl, e)

pub merge_keeps : (s : State) (a b : ObjId) → WellFormed s → is_bridge s.rows a ≡ true → is_bridge s.rows b ≡ true → merge_fault s a b ≡ None → WellFormed (merge_result s a b)
merge_keeps s a b t ha hb e =
    elim (same_name a b) as (λ c. same_name a b ≡ c → cond c None (cond (is_owned_elsewhere s a b) (Some Owned) (cond (has_name (below s b) a && not (owns s b a)) (Some Cycle) None)) ≡ None → WellFormed (merge_result s a b)) [
      | true ↦ λ h k. subst (λ rows. WellFormed (record s { rows = rows })) (sym (ap (λ z. relabel_region s.rows b (In z)) (same_name_is a b h) ∙ merge_itself s.rows b)) t
      | false ↦ λ h k.
          let p = cond_none (is_owned_elsewhere s a b) Owned _ k in
          let q = cond_none (has_name (below s b) a && not (owns s b a)) Cycle None p.1 in
          merge_keeps_two s t a b (in_region a (owner_in s.rows a) ha) (in_region b (owner_in s.rows b) hb) h p.0 q.0
    ] refl e

-- ---- by the values that the script names
bridge_at : (s : State) (os : List ObjId) (r : ObjId) → first_bridge s os ≡ Some r → is_bridge s.rows r ≡ true
bridge_at s [] r e = cc
bridge_at s (o ∷ os) r e = elim (is_bridge s.rows o) as (λ c. is_bridge s.rows o ≡ c → cond c (Some o) None ≡ Some r → is_bridge s.rows r ≡ true) [
  | true ↦ λ h k. subst (λ z. is_bridge s.rows z ≡ true) (some_is o r k) h
  | false ↦ λ h k. absurd (not_some r (sym k))
] refl e

pub merge_values : (s : State) (v u : Value) (a b : ObjId) → WellFormed s → bridge_of s v ≡ Some a → bridge_of s u ≡ Some b → merge_refusal s v u ≡ None → WellFormed (merge_result s a b)
merge_values s v u a b t ha hb e =
    merge_keeps s a b t (bridge_at s (targets_of_value v) a ha) (bridge_at s (targets_of_value u) b hb) (ap₂ (merge_refusal_by s) (sym ha) (sym hb) ∙ e)

pub dissolve_values : (s : State) (v : Value) (r : ObjId) → WellFormed s → bridge_of s v ≡ Some r → dissolve_refusal s v ≡ None → WellFormed (dissolve_result s r)
dissolve_values s v r t h e =
    dissolve_keeps s t r (in_region r (owner_in s.rows r) (bridge_at s (targets_of_value v) r h)) (cond_none (is_owned s r) Owned None (ap (dissolve_refusal_by s) (sym h) ∙ e)).0
