-- The refusal that is kept is the first of those that were noted.
use Rattle.std.proofs.Common.{◌≡◌, ◌<◌, ◌≤◌, ◌⊎◌, true, false, cond, List, [], ◌∷◌, Some, None, refl, sym, subst, ◌∙◌, inl, inr, arith}
use Rattle.lf_base.specs.declared.refusals.Place.{Place}
use Rattle.lf_base.specs.declared.refusals.Refusal.{Refusal}
use Rattle.lf_base.specs.Sets.{Member}
use Rattle.lf_base.proofs.NameLemmas.PairOrder.{not_pair_below, pair_below}
use Rattle.std.proofs.lemmas.Bool.{false_from_ne_true}
use Rattle.lf_codegen.specs.Earliest.{earliest}
use Rattle.lf_parser.specs.TreeNames.{place_before}
use Rattle.lf_codegen.specs.NameRefusals.{IsFirstOf}

-- by line, then by column
abbrev Before : Place → Place → Type 0
Before a b = (a.line < b.line) ⊎ ((a.line ≡ b.line) × (a.column < b.column))

abbrev pub NotBefore : Place → Place → Type 0
NotBefore a b = (b.line < a.line) ⊎ ((b.line ≡ a.line) × (b.column ≤ a.column))

module _ (a b : Place) where
  before_from : place_before a b ≡ true → Before a b
  before_from = pair_below a.line b.line a.column b.column

  pub not_before_from : place_before a b ≡ false → NotBefore a b
  not_before_from = not_pair_below a.line b.line a.column b.column

  is_false : (Before a b → ⊥) → place_before a b ≡ false
  is_false h = false_from_ne_true _ (λ e. h (before_from e))

never : (a b : Place) → Before a b → NotBefore a b → ⊥
never a b (inl x) (inl y) = omega arith
never a b (inl x) (inr y) = omega (arith, y.0)
never a b (inr x) (inl y) = omega (arith, x.0)
never a b (inr x) (inr y) = omega (arith, x.1, y.1)

itself : (a : Place) → NotBefore a a
itself a = inr (refl, omega arith)

further : (a b c : Place) → Before a b → Before b c → Before a c
further a b c (inl x) (inl y) = inl (omega arith)
further a b c (inl x) (inr y) = inl (omega (arith, y.0))
further a b c (inr x) (inl y) = inl (omega (arith, x.0))
further a b c (inr x) (inr y) = inr (x.0 ∙ y.0, omega (arith, x.1, y.1))

before_kept : (a b c : Place) → NotBefore a b → Before a c → Before b c
before_kept a b c (inl x) (inl y) = inl (omega arith)
before_kept a b c (inl x) (inr y) = inl (omega (arith, y.0))
before_kept a b c (inr x) (inl y) = inl (omega (arith, x.0))
before_kept a b c (inr x) (inr y) = inr (x.0 ∙ y.0, omega (arith, x.1, y.1))

-- a refusal more, which stands before the first one, or doesn't
with_sooner : (f x r : Refusal) (xs : List Refusal) → place_before x.place f.place ≡ true → IsFirstOf (x ∷ xs) r
    → IsFirstOf (f ∷ (x ∷ xs)) r
with_sooner f x r xs h first = record { is_there = inr first.is_there; least = least } where
  least : (other : Refusal) → Member other (f ∷ (x ∷ xs)) → place_before other.place r.place ≡ false
  least other (inl e) = subst (λ (o : Refusal). place_before o.place r.place ≡ false) e
      (is_false f.place r.place (λ l. never x.place r.place (further x.place f.place r.place (before_from x.place f.place h) l)
      (not_before_from x.place r.place (first.least x (inl refl)))))
  least other (inr m) = first.least other m

with_later : (f x r : Refusal) (xs : List Refusal) → place_before x.place f.place ≡ false → IsFirstOf (f ∷ xs) r
    → IsFirstOf (f ∷ (x ∷ xs)) r
with_later f x r xs h first = record { is_there = there first.is_there; least = least } where
  there : Member r (f ∷ xs) → Member r (f ∷ (x ∷ xs))
  there (inl e) = inl e
  there (inr m) = inr (inr m)

  least : (other : Refusal) → Member other (f ∷ (x ∷ xs)) → place_before other.place r.place ≡ false
  least other (inl e) = first.least other (inl e)
  least other (inr (inl e)) = subst (λ (o : Refusal). place_before o.place r.place ≡ false) e
      (is_false x.place r.place (λ l. never f.place r.place (before_kept x.place f.place r.place (not_before_from x.place f.place h) l)
      (not_before_from f.place r.place (first.least f (inl refl)))))
  least other (inr (inr m)) = first.least other (inr m)

some_is : (f r : Refusal) → Some f ≡ Some r → f ≡ r
some_is f r e = cc

first_from : (f r : Refusal) (xs : List Refusal) → earliest (Some f) xs ≡ Some r → IsFirstOf (f ∷ xs) r
first_from f r [] e = record { is_there = inl (some_is f r e); least = least } where
  least : (other : Refusal) → Member other (f ∷ []) → place_before other.place r.place ≡ false
  least other (inl m) = subst (λ (o : Refusal). place_before o.place r.place ≡ false) (sym (some_is f r e) ∙ m)
      (is_false r.place r.place (λ l. never r.place r.place l (itself r.place)))
  least other (inr m) = absurd m
first_from f r (x ∷ xs) e = elim (place_before x.place f.place) as
    (λ b. place_before x.place f.place ≡ b → earliest (cond b (Some x) (Some f)) xs ≡ Some r → IsFirstOf (f ∷ (x ∷ xs)) r) [
      | true ↦ λ h t. with_sooner f x r xs h (first_from x r xs t)
      | false ↦ λ h t. with_later f x r xs h (first_from f r xs t)
    ] refl e

-- what is kept of some refusals is the first of them
pub kept_is_first : (rs : List Refusal) (r : Refusal) → earliest None rs ≡ Some r → IsFirstOf rs r
kept_is_first [] r e = absurd cc
kept_is_first (x ∷ xs) r e = first_from x r xs e

one_stays : (f : Refusal) (xs : List Refusal) → earliest (Some f) xs ≡ None → ⊥
one_stays f [] e = absurd cc
one_stays f (x ∷ xs) e = elim (place_before x.place f.place) as (λ b. earliest (cond b (Some x) (Some f)) xs ≡ None → ⊥) [
  | true ↦ λ t. one_stays x xs t
  | false ↦ λ t. one_stays f xs t
] e

-- where none is kept, none came
pub none_came : (rs : List Refusal) → earliest None rs ≡ None → rs ≡ []
none_came [] e = refl
none_came (x ∷ xs) e = absurd (one_stays x xs e)
