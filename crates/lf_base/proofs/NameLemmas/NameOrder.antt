-- The rising order of names.
use Rattle.std.proofs.Common.{List, [], ap, arith, eqb, false, inl, inr, ltb, sym, true, ℕ, ◌&&◌, ◌<◌, ◌||◌, ◌∙◌, ◌∷◌, ◌≡◌, ◌⊎◌}
use Rattle.std.proofs.lemmas.Bool.Decides.{nat_tests}
use Rattle.lf_base.specs.declared.ids.ObjId.{ObjId}
use Rattle.lf_base.specs.Names.{name_below, same_name}
use Rattle.lf_base.specs.Sets.{Differ, InOrder}
use Rattle.lf_base.proofs.ListLemmas.Sublists.{order_all, order_tail}
use Rattle.std.proofs.lemmas.Bool.{both_ways, false_from_ne_true}
use Rattle.lf_base.proofs.NameLemmas.PairOrder.{is_pair_below, pair_below}
use Rattle.lf_base.proofs.ListLemmas.Tests.{any_none}
use Rattle.lf_base.proofs.NameLemmas.SameNames.{Decides-same_name, same_name_is}

chain : (a b c x y z : ℕ) → (a < b) ⊎ ((a ≡ b) × (x < y)) → (b < c) ⊎ ((b ≡ c) × (y < z)) → (a < c) ⊎ ((a ≡ c) × (x < z))
chain a b c x y z (inl h) (inl k) = inl (omega (arith, h, k))
chain a b c x y z (inl h) (inr k) = inl (omega (arith, h, k.0))
chain a b c x y z (inr h) (inl k) = inl (omega (arith, h.0, k))
chain a b c x y z (inr h) (inr k) = inr (h.0 ∙ k.0, omega (arith, h.1, k.1))

pub name_below_trans : (a b c : ObjId) → name_below a b ≡ true → name_below b c ≡ true → name_below a c ≡ true
name_below_trans a b c h k = is_pair_below a.birth c.birth a.seq c.seq (chain a.birth b.birth c.birth a.seq b.seq c.seq (pair_below a.birth b.birth a.seq b.seq h) (pair_below b.birth c.birth b.seq c.seq k))

pub which : (a b : ℕ) → (a < b) ⊎ ((b < a) ⊎ (a ≡ b))
which a b = grind arith

-- of two different names one is below the other
pub trichotomy : (a b x y : ℕ) → ((a < b) ⊎ ((a ≡ b) × (x < y)) → ⊥) → ((a ≡ b) → (x ≡ y) → ⊥) → (b < a) ⊎ ((b ≡ a) × (y < x))
trichotomy a b x y n d = elim (which a b) [
  | inl h ↦ absurd (n (inl h))
  | inr h ↦ elim h [
    | inl k ↦ inl k
    | inr e ↦ elim (which x y) [
      | inl k ↦ absurd (n (inr (e, k)))
      | inr k ↦ elim k [ inl j ↦ inr (sym e, j) | inr j ↦ absurd (d e j) ]
    ]
  ]
]

pub other_below : (a b : ObjId) → name_below a b ≡ false → same_name a b ≡ false → name_below b a ≡ true
other_below a b n d = is_pair_below b.birth a.birth b.seq a.seq (trichotomy a.birth b.birth a.seq b.seq
    (λ h. both_ways _ n (is_pair_below a.birth b.birth a.seq b.seq h))
    (λ e k. both_ways _ d ((Decides-same_name a b).1 (λ i. record { birth = e i; seq = k i }))))

apart_at : (a b d e : ℕ) → (ltb a b || (eqb a b && ltb d e)) ≡ true → (eqb a b && eqb d e) ≡ false
apart_at a b d e p = grind (arith, nat_tests)

asym_at : (a b d e : ℕ) → (ltb a b || (eqb a b && ltb d e)) ≡ true → (ltb b a || (eqb b a && ltb e d)) ≡ false
asym_at a b d e p = grind (arith, nat_tests)

-- a name below another one isn't it, and that one isn't below it
pub below_apart : (a b : ObjId) → name_below a b ≡ true → same_name a b ≡ false
below_apart a b p = apart_at a.birth b.birth a.seq b.seq p

pub below_asym : (a b : ObjId) → name_below a b ≡ true → name_below b a ≡ false
below_asym a b p = asym_at a.birth b.birth a.seq b.seq p

pub not_below_itself : (a : ObjId) → name_below a a ≡ false
not_below_itself a = false_from_ne_true _ (λ e. both_ways _ (below_asym a a e) e)

pub not_below : (a : ObjId) → name_below a a ≡ true → ⊥
not_below a e = both_ways _ (not_below_itself a) e

-- names in order differ
pub order_differ : (os : List ObjId) → InOrder name_below os → Differ same_name os
order_differ [] o = tt
order_differ (x ∷ xs) o = (
  any_none (λ y. same_name y x) xs (λ y m. false_from_ne_true _ (λ e. both_ways _ (not_below_itself x) (ap (name_below x) (sym (same_name_is y x e)) ∙ order_all name_below name_below_trans x xs o y m))),
  order_differ xs (order_tail name_below name_below_trans x xs o),
)
