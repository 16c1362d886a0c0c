-- What a close leaves without justification: inner rows without an edge, as each region that is closed keeps its owner or the slot.
use Rattle.std.proofs.Common.{Bool, List, None, Option, Some, [], ap, arith, cond, eqb, false, inl, inr, map, not, refl, subst, suc, sym, true, zero, ℕ, ◌&&◌, ◌++◌, ◌+◌, ◌<◌, ◌∙◌, ◌∷◌, ◌≡◌}
use Rattle.std.proofs.lemmas.Bool.{and_from, and_parts, both_ways, not-true, not_from_false}
use Rattle.std.specs.List.{count_by}
use Rattle.lf_base.specs.declared.ids.ObjId.{ObjId}
use Rattle.lf_base.specs.declared.values.Owner.{Owner}
use Rattle.lf_base.specs.declared.values.Owner.TheVariants.{Frozen, In, Local}
use Rattle.lf_base.specs.declared.values.Value.{Value}
use Rattle.lf_base.specs.declared.values.Value.TheVariants as value
use Rattle.lf_base.specs.CloseResult.{close_result, closed_slot}
use Rattle.lf_base.specs.EdgeLists.{closed_edges, is_closed_off}
use Rattle.lf_base.specs.Edges.{Content, Edge, Field, Slot, Source, edges, edges_by, rows_edges, slot_edges, slot_targets}
use Rattle.lf_base.specs.Losses.{LosesEdges, LostLast, is_held, last_edge, last_of_region}
use Rattle.lf_base.specs.Names.{same_name}
use Rattle.lf_base.specs.Noticing.{Noticed}
use Rattle.lf_base.specs.Owners.{bridge_of, is_bridge, is_in, is_local_at, owner_in}
use Rattle.lf_base.specs.Ownership.{Above, below, direct, is_from, is_in_other, is_owning, owning_edges, owns, step}
use Rattle.lf_base.specs.PlainChanges.{put_slot, slot_at}
use Rattle.lf_base.specs.PlainState.{Row, State}
use Rattle.lf_base.specs.Sets.{Member}
use Rattle.lf_base.specs.Suspects.{Object, Suspect}
use Rattle.lf_base.specs.WalkCounts.{borrowed, borrows, is_borrower, refs}
use Rattle.lf_base.specs.WellFormed.{WellFormed}
use Rattle.lf_base.proofs.ListLemmas.Filters.{Member_of_filter}
use Rattle.lf_base.proofs.ListLemmas.Members.{Member_left, Member_right, any_Member}
use Rattle.lf_base.proofs.ListLemmas.Tests.{by_test, none_count, some_is}
use Rattle.lf_base.proofs.NameLemmas.SameNames.{same_name_is, same_name_itself}
use Rattle.lf_laws.proofs.Changes.FewerFields.{close_keeps}
use Rattle.lf_laws.proofs.Edges.EdgeParts.{any_some, count_positive}
use Rattle.lf_laws.proofs.Losses.CountsFall.{owning_fewer, positive_test}
use Rattle.lf_laws.proofs.Losses.LossesNoticed.{known_noticed}
use Rattle.lf_laws.proofs.Losses.LostEdges.{close_loses}
use Rattle.lf_laws.proofs.Losses.ManyLosses.{edges_known, named}
use Rattle.lf_laws.proofs.Owners.PathsOfSets.{below_path}
use Rattle.lf_laws.proofs.Rows.OwnerTests.{in_is, in_region}
use Rattle.lf_transfer.specs.Closing.{HoldsBridge, is_inner, is_let_loose}

-- ---- the value that holds a bridge
record IsBridgeValue (s : State) (v : Value) (r : ObjId) : Type 0 where
  is : v ≡ value.Obj r
  bridge : is_bridge s.rows r ≡ true

bridge_value : (s : State) (v : Value) (r : ObjId) → bridge_of s v ≡ Some r → IsBridgeValue s v r
bridge_value s value.None r e = absurd (cc)
bridge_value s (value.Bool b) r e = absurd (cc)
bridge_value s (value.Int n) r e = absurd (cc)
bridge_value s (value.Text t) r e = absurd (cc)
bridge_value s (value.Cown c) r e = absurd (cc)
bridge_value s (value.Obj o) r e = by_test (is_bridge s.rows o)
    (λ h. let same : o ≡ r = some_is o r (sym (ap (λ b. cond b (Some o) None) h) ∙ e) in
    record { is = ap value.Obj same; bridge = ap (is_bridge s.rows) (sym same) ∙ h })
    (λ h. absurd (none_some r (sym (ap (λ b. cond b (Some o) None) h) ∙ e)))
  where
    none_some : (q : ObjId) → None ≡ Some q → ⊥
    none_some q n = cc

-- the slot at the place keeps its edge, whatever becomes of the others
slot_kept : (change : Option Value → Option Value) (xs : List (Option Value)) (n : ℕ) (o : ObjId) → slot_at xs n ≡ Some (value.Obj o)
    → Member (record { from = Slot; to = o }) (slot_edges (put_slot (map change xs) n (slot_at xs n)))
slot_kept change [] n o e = absurd (cc)
slot_kept change (x ∷ xs) zero o e =
    Member_left (record { from = Slot; to = o }) (edges_by Slot (slot_targets x)) (slot_edges (map change xs))
    (subst (λ y. Member (record { from = Slot; to = o }) (edges_by Slot (slot_targets y))) (sym e) (inl refl))
slot_kept change (x ∷ xs) (suc n) o e =
    Member_right (record { from = Slot; to = o }) (edges_by Slot (slot_targets (change x))) (slot_edges (put_slot (map change xs) n (slot_at xs n)))
    (slot_kept change xs n o e)

-- ---- owners
-- what is above a region has it owned by some region
owner_of_it : (s : State) {q r : ObjId} → Above s q r → (p : ObjId) × (owns s p r ≡ true)
owner_of_it s (direct {q} {r} e) = (q, e)
owner_of_it s (step e a) = owner_of_it s a

local_is_none : (r : ObjId) (w : Option Owner) → is_local_at w ≡ true → is_in_other r w ≡ false
local_is_none r None e = refl
local_is_none r (Some Local) e = refl
local_is_none r (Some (In q)) e = absurd (cc)
local_is_none r (Some Frozen) e = refl

-- no borrower owns
borrower_owns_none : (rows : List Row) (f : Source) (r : ObjId) → is_borrower rows f ≡ true → is_owning rows f r ≡ false
borrower_owns_none rows Slot r e = refl
borrower_owns_none rows (Field p) r e = local_is_none r (owner_in rows p) e
borrower_owns_none rows (Content c) r e = absurd (cc)

-- an edge from a row of another region owns
from_owns : (rows : List Row) (p r : ObjId) (f : Source) → same_name p r ≡ false → is_from rows p f ≡ true → is_owning rows f r ≡ true
from_owns rows p r Slot d e = cc
from_owns rows p r (Content c) d e = cc
from_owns rows p r (Field x) d e = ap (is_in_other r) (in_region p (owner_in rows x) e) ∙ not_from_false (same_name p r) d

inner_there : (q o : ObjId) (w : Option Owner) → w ≡ Some (In q) → same_name q o ≡ false → is_inner o w ≡ true
inner_there q o w e d = ap (is_inner o) e ∙ not_from_false (same_name q o) d

no_number : (n : ℕ) → n ≡ 0 → eqb n 0 ≡ true
no_number n e = ap (λ m. eqb m 0) e

not_zero : (n : ℕ) → 0 < n → n ≡ 0 → ⊥
not_zero n h e = omega (arith, h, e)

module _ (s : State) (at : ℕ) (r : ObjId) (well : WellFormed s) (h : HoldsBridge s at r) where
  abbrev t : State
  t = close_result s at r

  abbrev lost : List Edge
  lost = closed_edges s at r

  loses : LosesEdges s (t) (lost)
  loses = close_loses s at r well

  -- a region that is closed is pointed to still, and has an owner or a borrow
  abbrev Stands : ObjId → Type 0
  Stands q = (0 < refs (t) q) × (is_held (t) q ≡ true)

  -- ---- the region itself, by the slot
  holds_it : IsBridgeValue s h.value r
  holds_it = bridge_value s h.value r h.bridge

  abbrev kept : Edge
  kept = record { from = Slot; to = r }

  kept_edge : Member (kept) (edges (t))
  kept_edge = Member_left (kept) (slot_edges (t).slots) _ (slot_kept (closed_slot s r) s.slots at r (h.held ∙ ap Some (holds_it).is))

  itself : Stands r
  itself = (
    count_positive (λ (e : Edge). same_name e.to r) (edges (t)) (kept) (kept_edge) (same_name_itself r),
    positive_test (owning_edges (t) r + borrowed (t) r) (omega (arith, count_positive (borrows (t).rows r) (edges (t)) (kept) (kept_edge) (ap (is_in r) ((loses).owners r) ∙ (holds_it).bridge))),
  )

  -- ---- a region below it, by its owner
  module _ (p q : ObjId) (o : owns s p q ≡ true) where
    abbrev by_owner : Edge → Bool
    by_owner e = is_owning s.rows e.from q && same_name e.to q

    none_lost : count_by by_owner (lost) ≡ 0
    none_lost = none_count by_owner (lost) (λ e m.
        let off = (Member_of_filter (is_closed_off s r) e (slot_edges (put_slot s.slots at None) ++ rows_edges s.rows) m).1 in
        ap (λ b. b && same_name e.to q) (borrower_owns_none s.rows e.from q (and_parts (is_borrower s.rows e.from) _ off).0))

    owned_before : 0 < owning_edges s q
    owned_before =
        let a = and_parts (not (same_name p q)) _ o in
        let b = and_parts (is_bridge s.rows q) _ a.1 in
        let e = any_Member (λ (e : Edge). is_from s.rows p e.from && same_name e.to q) (edges s) b.1 in
        let c = and_parts (is_from s.rows p (e.0).from) (same_name (e.0).to q) e.1.1 in
        count_positive by_owner (edges s) e.0 e.1.0 (and_from _ _ (from_owns s.rows p q (e.0).from (not-true (same_name p q) a.0) c.0) c.1)

    owned_after : 0 < owning_edges (t) q
    owned_after = omega (arith, owned_before, none_lost, owning_fewer s (t) (lost) (loses) q)

    owned_stands : Stands q
    owned_stands =
        let e = any_Member (λ (e : Edge). is_owning (t).rows e.from q && same_name e.to q) (edges (t)) (any_some _ (edges (t)) (owned_after)) in (
          count_positive (λ (e : Edge). same_name e.to q) (edges (t)) e.0 e.1.0 (and_parts (is_owning (t).rows (e.0).from q) _ e.1.1).1,
          positive_test (owning_edges (t) q + borrowed (t) q) (omega (arith, owned_after)),
        )

  stands : (q : ObjId) → Member q (r ∷ below s r) → Stands q
  stands q (inl same) = subst (Stands) same (itself)
  stands q (inr m) = let p = owner_of_it s ((below_path s r q).0 m) in owned_stands p.0 q p.1

  -- ---- the edges that are lost
  module _ (old new : List Suspect) (noticed : Noticed s old) (stay : (u : Suspect) → Member u old → Member u new)
      (loose : (o : ObjId) → is_let_loose s (t) o ≡ true → Member (Object o) new) where
    into : (e : Edge) → Member e (lost) → (q : ObjId) × (Member q (r ∷ below s r) × (owner_in s.rows e.to ≡ Some (In q)))
    into e m =
        let off = (Member_of_filter (is_closed_off s r) e (slot_edges (put_slot s.slots at None) ++ rows_edges s.rows) m).1 in
        let q = any_Member (λ q. is_in q (owner_in s.rows e.to)) (r ∷ below s r) (and_parts (is_borrower s.rows e.from) _ off).1 in
        (q.0, (q.1.0, in_region q.0 (owner_in s.rows e.to) q.1.1))

    covered : (e : Edge) → Member e (lost) → LostLast s (t) e.to → Member (Object e.to) new
    covered e m (last_edge none) =
        let q = into e m in
        by_test (same_name q.0 e.to)
        (λ same. absurd (not_zero (refs (t) e.to) (subst (λ o. 0 < refs (t) o) (same_name_is q.0 e.to same) (stands q.0 q.1.0).0) none))
        (λ d. loose e.to (and_from _ _ (inner_there q.0 e.to (owner_in s.rows e.to) q.1.1 d)
        (and_from _ _ (positive_test (refs s e.to) (named s (t) (lost) (loses) e m)) (no_number (refs (t) e.to) none))))
    covered e m (last_of_region p w k n) =
        let q = into e m in
        let same : q.0 ≡ p = in_is q.0 p (some_is (In q.0) (In p) (sym q.1.1 ∙ w)) in
        absurd (both_ways _ n (ap (is_held (t)) (sym same) ∙ (stands q.0 q.1.0).1))

    pub loosened_noticed : Noticed (t) new
    loosened_noticed = known_noticed s (t) old new well (close_keeps s at r well) noticed (edges_known s (t) (lost) (loses) old new stay (covered))
