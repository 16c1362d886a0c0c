-- The loss of one edge as the counts show it: the target lost its last justification, or is justified still.
use Rattle.std.proofs.Common.{Bool, List, None, Option, Some, [], ap, arith, eqb, false, inl, inr, ltb, refl, subst, suc, sym, true, zero, ℕ, ◌&&◌, ◌+◌, ◌<◌, ◌∙◌, ◌∷◌, ◌≡◌, ◌⊎◌}
use Rattle.std.proofs.lemmas.Bool.{both_ways}
use Rattle.std.proofs.lemmas.Option.{none-some}
use Rattle.lf_base.specs.declared.ids.ObjId.{ObjId}
use Rattle.lf_base.specs.declared.values.Owner.{Owner}
use Rattle.lf_base.specs.declared.values.Owner.TheVariants.{Frozen, In, Local}
use Rattle.lf_base.specs.EdgeLists.{near_edges}
use Rattle.lf_base.specs.Edges.{Content, Edge, Field, Slot, Source, edges_by}
use Rattle.lf_base.specs.Losses.{LostLast, StillJustified, is_held, last_edge, last_of_region}
use Rattle.lf_base.specs.Names.{same_name}
use Rattle.lf_base.specs.Owners.{is_in, is_local_at, owner_in}
use Rattle.lf_base.specs.Ownership.{is_in_other, is_owning, owning_edges}
use Rattle.lf_base.specs.PlainState.{State}
use Rattle.lf_base.specs.Sets.{Member}
use Rattle.lf_base.specs.Suspects.{Object, Suspect}
use Rattle.lf_base.specs.WalkCounts.{borrowed, borrows, is_borrower, refs}
use Rattle.lf_base.proofs.NameLemmas.SameNames.{same_name_itself}
use Rattle.lf_domain.specs.OneEdge.{LiesIn, is_other_region}
use Rattle.lf_domain.proofs.StateEdges.{only_bridges}
use Rattle.lf_graph.specs.StoredRows.{CountedRow, owner_at, refs_at}
use Rattle.lf_laws.proofs.Losses.CountsFall.{borrowed_fewer, not_none, owning_fewer, positive_test}
use Rattle.lf_laws.proofs.Losses.OneLoss.{no_row, none_noticed, nothing_lost, one_noticed}
use Rattle.lf_laws.proofs.Rows.RowsByName.{owner_is}
use Rattle.lf_regions.specs.declared.region.Region.{Region}
use Rattle.lf_settle.specs.LostEdges.{HasLost, LosesPlace, NoticesLoss, is_bare, is_left_bare}
use Rattle.lf_settle.specs.WorkLists.{WorkList}
use Rattle.lf_settle.proofs.Counting.CountsTell.{bare_is_not_held, bridge_told, not_held_is_bare, owner_is_told, refs_told, region_told}
use Rattle.lf_base.specs.Losses.{Loses, LosesEdges}
use Rattle.lf_base.specs.Edges.{slot_targets}
use Rattle.lf_base.specs.declared.values.Value.{Value}
use Rattle.lf_base.specs.declared.values.Value.TheVariants as value
use Rattle.lf_domain.proofs.EdgeTests.{count_cons, edge_bit}
use Rattle.lf_laws.proofs.Rows.OwnerTests.{in_is}
use Rattle.lf_regions.specs.Regions.{has_region}

zero_of : (n : ℕ) → eqb n 0 ≡ true → n ≡ 0
zero_of n e = grind (arith, e)

above_of : (n : ℕ) → eqb n 0 ≡ false → 0 < n
above_of zero e = cc
above_of (suc n) e = omega arith

-- an object can't have lost its last justification and be justified still
lost_or_still : (s t : State) (o : ObjId) → LostLast s t o → StillJustified s t o → ⊥
lost_or_still s t o (last_edge z) still = absurd (omega (arith, z, still.named))
lost_or_still s t o (last_of_region r k h n) still = both_ways _ n (still.held r k h)

-- the objects of a slot are one or none
pub one_or_none : (v : Option Value) → (slot_targets v ≡ []) ⊎ ((o : ObjId) × (slot_targets v ≡ o ∷ []))
one_or_none None = inl refl
one_or_none (Some (value.Obj o)) = inr (o, refl)
one_or_none (Some (value.None)) = inl refl
one_or_none (Some (value.Bool b)) = inl refl
one_or_none (Some (value.Int n)) = inl refl
one_or_none (Some (value.Text t)) = inl refl
one_or_none (Some (value.Cown c)) = inl refl

-- ---- what is noticed of one object
module _ (s t : State) (o : ObjId) (old : List Suspect) where
  pub last_noticed : (w : Owner) → owner_in s.rows o ≡ Some w → LostLast s t o → NoticesLoss s t (o ∷ []) old (Object o ∷ old)
  last_noticed w h l = record {
    last = λ p u m k ll. at p m;
    still = λ p m st. absurd (lost_or_still s t p (subst (LostLast s t) (here p m) l) st);
    elsewhere = λ p m n. absurd (none-some w (sym n ∙ ap (owner_in s.rows) (sym (here p m)) ∙ h));
    none = λ e. absurd (no_cons e);
  } where
    here : (p : ObjId) → Member p (o ∷ []) → o ≡ p
    here p (inl e) = e
    here p (inr m) = absurd m

    at : (p : ObjId) → Member p (o ∷ []) → Object o ∷ old ≡ Object p ∷ old
    at p m = ap (λ n. Object n ∷ old) (here p m)

    no_cons : o ∷ [] ≡ [] → ⊥
    no_cons e = cc

  -- nothing is new where none of it holds
  nothing_noticed : (LostLast s t o → (w : Owner) → owner_in s.rows o ≡ Some w → ⊥) → NoticesLoss s t (o ∷ []) old old
  nothing_noticed none = record {
    last = λ p w m h l. absurd (none (subst (LostLast s t) (sym (here p m)) l) w (ap (owner_in s.rows) (here p m) ∙ h));
    still = λ p m st. refl;
    elsewhere = λ p m n. refl;
    none = λ e. refl;
  } where
    here : (p : ObjId) → Member p (o ∷ []) → o ≡ p
    here p (inl e) = e
    here p (inr m) = absurd m

  pub still_noticed : StillJustified s t o → NoticesLoss s t (o ∷ []) old old
  still_noticed st = nothing_noticed (λ l w h. lost_or_still s t o l st)

  pub elsewhere_noticed : owner_in s.rows o ≡ None → NoticesLoss s t (o ∷ []) old old
  elsewhere_noticed n = nothing_noticed (λ l w h. none-some w (sym n ∙ h))

pub none_noticed_of : (s t : State) (old : List Suspect) → NoticesLoss s t [] old old
none_noticed_of s t old = record { last = λ p w m h l. absurd m; still = λ p m st. refl; elsewhere = λ p m n. refl; none = λ e. refl }

-- ---- what is noticed is what a loss asks for
module _ (s t : State) (from : Source) (o : ObjId) (p : LosesPlace s t from (o ∷ [])) where
  abbrev e : Edge
  e = record { from = from; to = o }

  decided : (w : Owner) → owner_in s.rows o ≡ Some w → LostLast s t o ⊎ StillJustified s t o
  decided w h = by_refs (eqb (refs t o) 0) refl where
    by_held : (r : ObjId) → owner_in s.rows o ≡ Some (In r) → 0 < refs t o → (a : Bool) → is_held s r ≡ a → (b : Bool) → is_held t r ≡ b → LostLast s t o ⊎ StillJustified s t o
    by_held r k some true a false b = inl (last_of_region r k a b)
    by_held r k some true a true b = inr (record { named = some; held = λ q j i. subst (λ z. is_held t z ≡ true) (in_is r q (owner_is s.rows o (In r) (In q) k j)) b })
    by_held r k some false a b c = inr (record { named = some; held = λ q j i. absurd (both_ways _ a (subst (λ z. is_held s z ≡ true) (sym (in_is r q (owner_is s.rows o (In r) (In q) k j))) i)) })

    by_owner : (u : Owner) → owner_in s.rows o ≡ Some u → 0 < refs t o → LostLast s t o ⊎ StillJustified s t o
    by_owner Local k some = inr (record { named = some; held = λ q j i. absurd (no_in (sym k ∙ j)) }) where
      no_in : {q : ObjId} → Some Local ≡ Some (In q) → ⊥
      no_in x = cc
    by_owner Frozen k some = inr (record { named = some; held = λ q j i. absurd (no_in (sym k ∙ j)) }) where
      no_in : {q : ObjId} → Some Frozen ≡ Some (In q) → ⊥
      no_in x = cc
    by_owner (In r) k some = by_held r k some (is_held s r) refl (is_held t r) refl

    by_refs : (b : Bool) → eqb (refs t o) 0 ≡ b → LostLast s t o ⊎ StillJustified s t o
    by_refs true z = inl (last_edge (zero_of (refs t o) z))
    by_refs false z = by_owner w h (above_of (refs t o) z)

  pub object_loses : (old new : List Suspect) → NoticesLoss s t (o ∷ []) old new → Loses s t old new
  object_loses old new n = by (owner_in s.rows o) refl where
    by : (w : Option Owner) → owner_in s.rows o ≡ w → Loses s t old new
    by None h = subst (Loses s t old) (sym (n.elsewhere o (inl refl) h)) (no_row s t e p.lost p.before old h)
    by (Some w) h = elim (decided w h) [
      | inl l ↦ subst (Loses s t old) (sym (n.last o w (inl refl) h l)) (one_noticed s t e p.lost p.before old w h l)
      | inr st ↦ subst (Loses s t old) (sym (n.still o (inl refl) st)) (none_noticed s t e p.lost p.before old st)
    ]

pub value_loses : (s t : State) (from : Source) (v : Option Value) (old new : List Suspect) → LosesPlace s t from (slot_targets v) → NoticesLoss s t (slot_targets v) old new → Loses s t old new
value_loses s t from v old new p n = elim (one_or_none v) [
  | inl z ↦ subst (Loses s t old) (sym (n.none z)) (nothing_lost s t (subst (λ l. LosesEdges s t (edges_by from l)) z p.lost) old)
  | inr x ↦ object_loses s t from x.0 (subst (LosesPlace s t from) x.1 p) old new (subst (λ l. NoticesLoss s t l old new) x.1 n)
]

-- ---- what the counts show after the loss
module _ (rows : List CountedRow) (regions : List Region) (work : WorkList) (s t : State) (from : Source) (o : ObjId) (home : Option ObjId) (h : HasLost rows regions work s t from (o ∷ []) home) where
  abbrev d : Edge
  d = record { from = from; to = o }

  borrows_less : (r : ObjId) → borrowed s r ≡ edge_bit (borrows s.rows r d) + borrowed t r
  borrows_less r = omega (arith, borrowed_fewer s t (d ∷ []) h.loses.lost r, count_cons (borrows s.rows r) d [])

  owners_less : (r : ObjId) → owning_edges s r ≡ edge_bit (is_owning s.rows from r && same_name o r) + owning_edges t r
  owners_less r = omega (arith, owning_fewer s t (d ∷ []) h.loses.lost r, count_cons (λ (z : Edge). is_owning s.rows z.from r && same_name z.to r) d [])

  -- an edge of the region itself counts for nothing there
  inside_counts : (r : ObjId) → owner_in s.rows o ≡ Some (In r) → is_other_region home r ≡ false → (borrows s.rows r d ≡ false) × ((is_owning s.rows from r && same_name o r) ≡ false)
  inside_counts r k other = elim h.begins [
    | inl near ↦ absurd (let z : true ≡ false = sym (ap (λ m. is_other_region m r) near.1) ∙ other in cc)
    | inr lies ↦ by from home lies other
  ] where
    by : (f : Source) (m : Option ObjId) → LiesIn s.rows f m → is_other_region m r ≡ false → ((is_borrower s.rows f && is_in r (owner_in s.rows o)) ≡ false) × ((is_owning s.rows f r && same_name o r) ≡ false)
    by Slot m l e = absurd l
    by (Field p) None l e = absurd l
    by (Content c) (Some q) l e = absurd l
    by (Content c) None l e = absurd (let z : true ≡ false = e in cc)
    by (Field p) (Some q) l e = (
      (ap (λ w. is_local_at w && is_in r (owner_in s.rows o)) l),
      (ap (λ w. is_in_other r w && same_name o r) l ∙ ap (λ b. b && same_name o r) e),
    )

  -- an edge from elsewhere borrowed the region or owned it
  outside_counts : (r : ObjId) → owner_in s.rows o ≡ Some (In r) → is_other_region home r ≡ true → (borrows s.rows r d ≡ true) ⊎ ((is_owning s.rows from r && same_name o r) ≡ true)
  outside_counts r k other = elim h.begins [
    | inl near ↦ inl (ap (λ b. b && is_in r (owner_in s.rows o)) near.0 ∙ ap (is_in r) k ∙ same_name_itself r)
    | inr lies ↦ inr (by from home lies other (only_bridges s h.loses.before from (o ∷ []) (near_edges t) home h.loses.near lies o r (inl refl) k other))
  ] where
    by : (f : Source) (m : Option ObjId) → LiesIn s.rows f m → is_other_region m r ≡ true → r ≡ o → (is_owning s.rows f r && same_name o r) ≡ true
    by Slot m l e same = absurd l
    by (Field p) None l e same = absurd l
    by (Content c) (Some q) l e same = absurd l
    by (Content c) None l e same = ap (same_name o) same ∙ same_name_itself o
    by (Field p) (Some q) l e same = ap (λ w. is_in_other r w && same_name o r) l ∙ ap (λ b. b && same_name o r) e ∙ ap (same_name o) same ∙ same_name_itself o

  held_inside : (r : ObjId) → owner_in s.rows o ≡ Some (In r) → is_other_region home r ≡ false → is_held s r ≡ is_held t r
  held_inside r k other =
      let z = inside_counts r k other in
      ap (ltb 0) (omega (arith, borrows_less r, owners_less r, ap edge_bit z.0, ap edge_bit z.1))

  held_before : (r : ObjId) → owner_in s.rows o ≡ Some (In r) → is_other_region home r ≡ true → is_held s r ≡ true
  held_before r k other = elim (outside_counts r k other) [
    | inl b ↦ positive_test (owning_edges s r + borrowed s r) (omega (arith, borrows_less r, ap edge_bit b))
    | inr b ↦ positive_test (owning_edges s r + borrowed s r) (omega (arith, owners_less r, ap edge_bit b))
  ]

  owner_after : (w : Owner) → owner_in s.rows o ≡ Some w → owner_in t.rows o ≡ Some w
  owner_after w k = h.loses.lost.owners o ∙ k

  pub no_owner_told : None ≡ owner_at rows o → owner_in s.rows o ≡ None
  no_owner_told e = sym (h.loses.lost.owners o) ∙ sym (owner_is_told rows regions t h.counted o) ∙ sym e

  module _ (w : Owner) (at : Some w ≡ owner_at rows o) where
    pub owned_by : owner_in s.rows o ≡ Some w
    owned_by = sym (h.loses.lost.owners o) ∙ sym (owner_is_told rows regions t h.counted o) ∙ sym at

    pub table_has : (r : ObjId) → w ≡ In r → has_region regions r ≡ true
    table_has r e = region_told rows regions t h.counted o r (owner_after w owned_by ∙ ap Some e)

    pub last_shown : refs_at rows o ≡ 0 → LostLast s t o
    last_shown z = last_edge (sym (refs_told rows regions t h.counted o w (owner_after w owned_by)) ∙ z)

    bare_shown : (u : Owner) → owner_in s.rows o ≡ Some u → is_left_bare regions u home ≡ true → LostLast s t o
    bare_shown Local k e = cc
    bare_shown Frozen k e = cc
    bare_shown (In r) k e =
        let both = and_parts (is_other_region home r) (is_bare regions r) e in
        last_of_region r k (held_before r k both.0) (bare_is_not_held rows regions t h.counted r (bridge_told rows regions t h.counted o r (owner_after (In r) k)) both.1)
      where
        and_parts : (a b : Bool) → (a && b) ≡ true → (a ≡ true) × (b ≡ true)
        and_parts true b i = (refl, i)
        and_parts false b i = cc

    pub left_shown : is_left_bare regions w home ≡ true → LostLast s t o
    left_shown = bare_shown w owned_by

    pub still_shown : (refs_at rows o ≡ 0 → ⊥) → is_left_bare regions w home ≡ false → StillJustified s t o
    still_shown z n = record {
      named = omega (arith, not_none (refs_at rows o) z, refs_told rows regions t h.counted o w (owner_after w owned_by));
      held = λ r k i. by r k i (ap (λ u. is_left_bare regions u home) (owner_is s.rows o (In r) w k owned_by) ∙ n) (is_other_region home r) refl (is_held t r) refl;
    } where
      by : (r : ObjId) → owner_in s.rows o ≡ Some (In r) → is_held s r ≡ true → (is_other_region home r && is_bare regions r) ≡ false → (a : Bool) → is_other_region home r ≡ a → (b : Bool) → is_held t r ≡ b → b ≡ true
      by r k i m a e true f = refl
      by r k i m false e false f = absurd (both_ways _ (held_inside r k e ∙ f) i)
      by r k i m true e false f =
          absurd (let z : true ≡ false = sym ((λ j. e j && not_held_is_bare rows regions t h.counted r (bridge_told rows regions t h.counted o r (owner_after (In r) k)) f j)) ∙ m in cc)
