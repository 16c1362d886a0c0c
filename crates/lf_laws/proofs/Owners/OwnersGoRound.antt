-- Owners go round exactly where some bridge is above itself. A change that adds no owner doesn't make them go round.
use Rattle.std.proofs.Common.{Bool, List, [], ap, arith, cond, false, inl, inr, length, map, not, refl, subst, suc, sym, true, zero, ℕ, ◌&&◌, ◌<◌, ◌||◌, ◌∙◌, ◌∷◌, ◌≡◌, ◌⊎◌}
use Rattle.std.specs.List.{filter, list_any}
use Rattle.lf_base.specs.declared.ids.ObjId.{ObjId}
use Rattle.lf_base.specs.declared.values.Owner.TheVariants.{In}
use Rattle.lf_base.specs.Edges.{Content, Edge, Field, Slot, Source, edges}
use Rattle.lf_base.specs.Names.{same_name}
use Rattle.lf_base.specs.Owners.{bridges, is_bridge, is_in, owner_in}
use Rattle.lf_base.specs.Ownership.{Above, NoRound, direct, is_from, owns, round, step}
use Rattle.lf_base.specs.PlainState.{Row, State}
use Rattle.lf_base.specs.Sets.{Member}
use Rattle.lf_laws.proofs.Rows.OwnerTests.{in_region}
use Rattle.lf_laws.proofs.Rows.RowsByName.{row_of}
use Rattle.std.proofs.lemmas.Bool.{and_from, and_parts, not_from_false, both_ways, or_left}
use Rattle.lf_base.proofs.ListLemmas.Members.{Member_any, Member_map, any_Member, any_more, Within}
use Rattle.std.proofs.Math.Bool.{or-true}
use Rattle.lf_base.proofs.NameLemmas.SameNames.{same_name_is, same_name_itself}
use Rattle.lf_base.proofs.ListLemmas.Filters.{Member_filter, length_filter_le}
use Rattle.lf_base.proofs.ListLemmas.GreatestSets.{greatest_has, greatest_meets}

-- a member that is taken out makes the list shorter
shorter : (o : ObjId) (os : List ObjId) → Member o os → length (filter (λ p. not (same_name p o)) os) < length os
shorter o [] m = absurd m
shorter o (p ∷ os) m =
    elim (same_name p o) as (λ b. same_name p o ≡ b → length (cond (not b) (p ∷ filter (λ q. not (same_name q o)) os) (filter (λ q. not (same_name q o)) os)) < length (p ∷ os)) [
      | true ↦ λ e. omega (arith, length_filter_le (λ q. not (same_name q o)) os)
      | false ↦ λ e. elim m [
        | inl h ↦ absurd (both_ways _ e (ap (λ n. same_name n o) h ∙ same_name_itself o))
        | inr k ↦ omega (arith, shorter o os k)
      ]
    ] refl

module _ (s : State) where
  abbrev owned_in : List ObjId → ObjId → Bool
  owned_in qs r = list_any (λ q. owns s q r) qs

  owned_more : (xs ys : List ObjId) (x : ObjId) → Within xs ys → owned_in xs x ≡ true → owned_in ys x ≡ true
  owned_more xs ys x w e = any_more (λ q. owns s q x) xs ys w e

  pub bridge_listed : (q r : ObjId) → owns s q r ≡ true → Member r (bridges s)
  bridge_listed q r e =
      let b : is_bridge s.rows r ≡ true = (and_parts (is_bridge s.rows r) _ (and_parts (not (same_name q r)) _ e).1).0 in
      let y = row_of s.rows r (In r) (in_region r (owner_in s.rows r) b) in
      Member_filter (is_bridge s.rows) r (map (λ r. r.name) s.rows) (subst (λ n. Member n (map (λ r. r.name) s.rows)) y.name (Member_map (λ (r : Row). r.name) y.row s.rows y.mem)) b

  -- the regions on the way
  abbrev way : {q r : ObjId} → Above s q r → List ObjId
  way (direct {r} e) = r ∷ []
  way (step {p} e a) = p ∷ way a

  last : {q r : ObjId} (a : Above s q r) → Member r (way a)
  last (direct e) = inl refl
  last (step e a) = inr (last a)

  way_owned : {q r : ObjId} (a : Above s q r) (z : ObjId) → Member z (way a) → owned_in (q ∷ way a) z ≡ true
  way_owned (direct {q} {r} e) z (inl h) = or_left (owns s q z) _ (ap (owns s q) (sym h) ∙ e)
  way_owned (direct {q} {r} e) z (inr h) = absurd h
  way_owned (step {q} {p} e a) z (inl h) = or_left (owns s q z) _ (ap (owns s q) (sym h) ∙ e)
  way_owned (step {q} {p} e a) z (inr h) = ap (λ b. owns s q z || b) (way_owned a z h) ∙ or-true (owns s q z)

  way_bridges : {q r : ObjId} (a : Above s q r) → Within (way a) (bridges s)
  way_bridges (direct {q} {r} e) z (inl h) = subst (λ n. Member n (bridges s)) h (bridge_listed q r e)
  way_bridges (direct e) z (inr h) = absurd h
  way_bridges (step {q} {p} e a) z (inl h) = subst (λ n. Member n (bridges s)) h (bridge_listed q p e)
  way_bridges (step e a) z (inr h) = way_bridges a z h

  back : {q r : ObjId} (a : Above s q r) → Member q (way a) → Within (q ∷ way a) (way a)
  back a m z (inl e) = subst (λ n. Member n (way a)) e m
  back a m z (inr k) = k

  pub none_above : round s ≡ [] → NoRound s
  none_above e r a = subst (λ l. Member r l) e
      (greatest_has owned_in owned_more (bridges s) (way a)
      (λ z m. owned_more (r ∷ way a) (way a) z (back a (last a)) (way_owned a z m))
      (way_bridges a) r (last a))

  abbrev Seen : List ObjId → List ObjId → ObjId → Type 0
  Seen all rest here = (z : ObjId) → Member z all → Member z rest ⊎ ((z ≡ here) ⊎ Above s here z)

  seen_on : (all rest : List ObjId) (here q : ObjId) → owns s q here ≡ true → Seen all rest here → Seen all (filter (λ p. not (same_name p q)) rest) q
  seen_on all rest here q e seen z m = elim (seen z m) [
    | inr (inl h) ↦ inr (inr (direct (ap (owns s q) h ∙ e)))
    | inr (inr a) ↦ inr (inr (step e a))
    | inl k ↦ elim (same_name z q) as (λ b. same_name z q ≡ b → Member z (filter (λ p. not (same_name p q)) rest) ⊎ ((z ≡ q) ⊎ Above s q z)) [
      | true ↦ λ h. inr (inl (same_name_is z q h))
      | false ↦ λ h. inl (Member_filter (λ p. not (same_name p q)) z rest k (not_from_false _ h))
    ] refl
  ]

  -- climbing from owner to owner among the members of a set that owns its members comes back
  climb : (n : ℕ) (all rest : List ObjId) → NoRound s → ((z : ObjId) → Member z all → owned_in all z ≡ true) → length rest < n → (here : ObjId) → Member here all → Seen all rest here → ⊥
  climb zero all rest straight own low here m seen = omega arith
  climb (suc n) all rest straight own low here m seen =
      let t = any_Member (λ q. owns s q here) all (own here m) in
      elim (seen t.0 t.1.0) [
        | inr (inl e) ↦ straight here (direct (ap (λ z. owns s z here) (sym e) ∙ t.1.1))
        | inr (inr a) ↦ straight t.0 (step t.1.1 a)
        | inl k ↦ climb n all (filter (λ p. not (same_name p t.0)) rest) straight own (omega (arith, low, shorter t.0 rest k)) t.0 t.1.0 (seen_on all rest here t.0 t.1.1 seen)
      ]

  empty_by : (all : List ObjId) → NoRound s → ((z : ObjId) → Member z all → owned_in all z ≡ true) → all ≡ []
  empty_by [] straight own = refl
  empty_by (r ∷ rs) straight own = absurd (climb (suc (length (r ∷ rs))) (r ∷ rs) (r ∷ rs) straight own (omega arith) r (inl refl) (λ z m. inl m))

  pub round_none : NoRound s → round s ≡ []
  round_none straight = empty_by (round s) straight (greatest_meets owned_in (bridges s))

-- ---- owners after a change
module _ (s after : State) where
  -- an owner was one before where its edge and both ends were
  pub owns_before : (q r : ObjId)
      → ((e : Edge) → Member e (edges after) → is_from after.rows q e.from ≡ true → same_name e.to r ≡ true → is_bridge after.rows r ≡ true → Member e (edges s) × ((is_from s.rows q e.from ≡ true) × (is_bridge s.rows r ≡ true)))
      → owns after q r ≡ true → owns s q r ≡ true
  owns_before q r old e =
      let a = and_parts (not (same_name q r)) _ e in
      let b = and_parts (is_bridge after.rows r) _ a.1 in
      let x = any_Member (λ (d : Edge). is_from after.rows q d.from && same_name d.to r) (edges after) b.1 in
      let p = and_parts (is_from after.rows q (x.0).from) (same_name (x.0).to r) x.1.1 in
      let was = old x.0 x.1.0 p.0 p.1 b.0 in
      and_from _ _ a.0 (and_from _ _ was.1.1 (Member_any (λ (d : Edge). is_from s.rows q d.from && same_name d.to r) x.0 (edges s) was.0 (and_from _ _ was.1.0 p.1)))

  from_before : ((q p : ObjId) → is_in q (owner_in after.rows p) ≡ true → is_in q (owner_in s.rows p) ≡ true) → (q : ObjId) (f : Source) → is_from after.rows q f ≡ true → is_from s.rows q f ≡ true
  from_before old q Slot e = e
  from_before old q (Field p) e = old q p e
  from_before old q (Content c) e = e

  -- where no edge and no member of a region is new, no owner is
  pub owns_within : Within (edges after) (edges s) → ((q p : ObjId) → is_in q (owner_in after.rows p) ≡ true → is_in q (owner_in s.rows p) ≡ true)
      → (q r : ObjId) → owns after q r ≡ true → owns s q r ≡ true
  owns_within edge old q r = owns_before q r (λ e m f n b. (edge e m, (from_before old q e.from f, old r r b)))

  pub above_before : ((q r : ObjId) → owns after q r ≡ true → owns s q r ≡ true) → {q r : ObjId} → Above after q r → Above s q r
  above_before old (direct {q} {r} e) = direct (old q r e)
  above_before old (step {q} {p} e a) = step (old q p e) (above_before old a)

  -- where no owner is new, owners don't go round if they didn't
  pub straight_before : ((q r : ObjId) → owns after q r ≡ true → owns s q r ≡ true) → NoRound s → NoRound after
  straight_before old straight r a = straight r (above_before old a)

  pub round_before : ((q r : ObjId) → owns after q r ≡ true → owns s q r ≡ true) → round s ≡ [] → round after ≡ []
  round_before old e = round_none after (straight_before old (none_above s e))
