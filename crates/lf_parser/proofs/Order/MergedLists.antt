-- A list that two others are merged into: the parts of a list that ascends, and how often an item is there.
use Rattle.std.proofs.Common.{◌≡◌, ℕ, ◌+◌, ◌≤◌, List, [], ◌∷◌, ◌++◌, Bool, true, false, cond, refl, ap, ◌∙◌, subst, append-nil, arith, inl, inr}
use Rattle.std.proofs.lemmas.List.Sums.{sum_by-cons, sum_by-append}
use Rattle.std.specs.List.{count_by, flat_map}
use Rattle.lf_base.specs.Sets.{Member}
use Rattle.lf_base.proofs.ListLemmas.Sublists.{Sub, none, take, pass, sub_all, sub_within, sub_append, sub_before}
use Rattle.lf_parser.specs.Ascending.{Ascending}

-- the items of two lists in one, each list's in its order
pub data Merge {X : Type 0} : List X → List X → List X → Type 0 where
  no_item : Merge [] [] []
  first : {x : X} {xs ys zs : List X} → Merge xs ys zs → Merge (x ∷ xs) ys (x ∷ zs)
  second : {y : X} {xs ys zs : List X} → Merge xs ys zs → Merge xs (y ∷ ys) (y ∷ zs)

pub merge_after : {X : Type 0} {us vs ws xs ys zs : List X} → Merge us vs ws → Merge xs ys zs → Merge (us ++ xs) (vs ++ ys) (ws ++ zs)
merge_after no_item q = q
merge_after (first p) q = first (merge_after p q)
merge_after (second p) q = second (merge_after p q)

pub first_alone : {X : Type 0} (xs : List X) → Merge xs [] xs
first_alone [] = no_item
first_alone (x ∷ xs) = first (first_alone xs)

pub second_alone : {X : Type 0} (xs : List X) → Merge [] xs xs
second_alone [] = no_item
second_alone (x ∷ xs) = second (second_alone xs)

pub first_part : {X : Type 0} {xs ys zs : List X} → Merge xs ys zs → Sub xs zs
first_part no_item = none
first_part (first m) = take (first_part m)
first_part (second m) = pass (first_part m)

pub second_part : {X : Type 0} {xs ys zs : List X} → Merge xs ys zs → Sub ys zs
second_part no_item = none
second_part (first m) = pass (second_part m)
second_part (second m) = take (second_part m)

module _ {X : Type 0} (p : X → Bool) where
  abbrev one_where : X → ℕ
  one_where x = cond (p x) 1 0

  merge_counts : {xs ys zs : List X} → Merge xs ys zs → count_by p xs + count_by p ys ≡ count_by p zs
  merge_counts no_item = refl
  merge_counts (first {x} {xs} {ys} {zs} m) = omega (arith, sum_by-cons one_where x xs, sum_by-cons one_where x zs, merge_counts m)
  merge_counts (second {y} {xs} {ys} {zs} m) = omega (arith, sum_by-cons one_where y ys, sum_by-cons one_where y zs, merge_counts m)

  pub count_of_both : {xs ys zs : List X} → Merge xs ys zs → count_by p (xs ++ ys) ≡ count_by p zs
  count_of_both {xs} {ys} m = sum_by-append one_where xs ys ∙ merge_counts m

  none_counted : (xs : List X) → ((x : X) → Member x xs → p x ≡ true → ⊥) → count_by p xs ≡ 0
  none_counted [] h = refl
  none_counted (x ∷ xs) h = omega (arith, sum_by-cons one_where x xs, none_where (p x) refl, none_counted xs (λ y m. h y (inr m)))
    where
      none_where : (b : Bool) → p x ≡ b → ◌≡◌ {A = ℕ} (cond b 1 0) 0
      none_where true e = absurd (h x (inl refl) e)
      none_where false e = refl

module _ {X : Type 0} (before : X → X → Bool) where
  pub ascending_part : {xs ys : List X} → Sub xs ys → Ascending before ys → Ascending before xs
  ascending_part none r = tt
  ascending_part (take s) r = ((λ y m. r.0 y (sub_within s y m)), ascending_part s r.1)
  ascending_part (pass s) r = ascending_part s r.1

  -- items that a test can't tell apart don't come before each other
  module _ (p : X → Bool) (apart : (x y : X) → p x ≡ true → p y ≡ true → before x y ≡ true → ⊥) where
    one_more : (x : X) (xs : List X) → ((y : X) → Member y xs → before x y ≡ true) → (b : Bool) → p x ≡ b → count_by p xs ≤ 1 → count_by p (x ∷ xs) ≤ 1
    one_more x xs first_of_all true e rest =
        let others = none_counted p xs (λ y m h. apart x y e h (first_of_all y m)) in
        omega (arith, sum_by-cons (one_where p) x xs, ap {B = ℕ} (λ b. cond b 1 0) e, others)
    one_more x xs first_of_all false e rest = omega (arith, sum_by-cons (one_where p) x xs, ap {B = ℕ} (λ b. cond b 1 0) e, rest)

    pub once_in : (xs : List X) → Ascending before xs → count_by p xs ≤ 1
    once_in [] r = omega arith
    once_in (x ∷ xs) r = one_more x xs r.0 (p x) refl (once_in xs r.1)

-- the items that one of the list's members brings
pub brought_part : {X Y : Type 0} (f : X → List Y) (x : X) (xs : List X) → Member x xs → Sub (f x) (flat_map f xs)
brought_part f x (z ∷ xs) (inl e) = subst (λ u. Sub (f u) (f z ++ flat_map f xs)) e (subst (λ us. Sub us (f z ++ flat_map f xs)) (append-nil (f z)) (sub_append (sub_all (f z)) (nothing_of (flat_map f xs))))
  where
    nothing_of : {Z : Type 0} (us : List Z) → Sub [] us
    nothing_of [] = none
    nothing_of (u ∷ us) = pass (nothing_of us)
brought_part f x (z ∷ xs) (inr m) = sub_before (f z) (brought_part f x xs m)
brought_part f x [] m = absurd m
