-- Members of lists, and lists with the same members in another order.
use Rattle.std.proofs.Common.{List, None, Option, Some, [], ap, cond, false, find, inl, inr, refl, subst, sym, true, Bool, ◌∙◌, ◌∷◌, ◌≡◌, ◌≤◌}
use Rattle.std.specs.List.{All, count_by}
use Rattle.std.specs.List.Sorted.{IsPermutation}
use Rattle.std.proofs.lemmas.Bool.{both_ways}
use Rattle.std.proofs.lemmas.List.Elements.{All-cons, All-head, All-nil, All-tail}
use Rattle.std.proofs.lemmas.List.Sorted.{All-permutation, IsPermutation-sym}
use Rattle.lf_base.specs.Sets.{Member}
use Rattle.lf_base.proofs.ListLemmas.Tests.{count_one, some_is}

module _ {X : Type 0} where
  pub all_of_members : (P : X → Type 0) (xs : List X) → ((x : X) → Member x xs → P x) → All P xs
  all_of_members P [] h = All-nil P
  all_of_members P (x ∷ xs) h = All-cons P x xs (h x (inl refl)) (all_of_members P xs (λ y m. h y (inr m)))

  pub member_of_all : (P : X → Type 0) (xs : List X) → All P xs → (x : X) → Member x xs → P x
  member_of_all P [] a x m = absurd m
  member_of_all P (y ∷ ys) a x (inl e) = subst P e (All-head P y ys a)
  member_of_all P (y ∷ ys) a x (inr m) = member_of_all P ys (All-tail P y ys a) x m

  -- what is in a list is in the list that it was made of by exchanges
  pub member_before : (xs ys : List X) → IsPermutation xs ys → (x : X) → Member x ys → Member x xs
  member_before xs ys s =
      member_of_all (λ x. Member x xs) ys (All-permutation (λ x. Member x xs) xs ys s (all_of_members (λ x. Member x xs) xs (λ x m. m)))

  pub member_after : (xs ys : List X) → IsPermutation xs ys → (x : X) → Member x xs → Member x ys
  member_after xs ys s = member_before ys xs (IsPermutation-sym xs ys s)

  pub find_some : (p : X → Bool) (xs : List X) (y : X) → find p xs ≡ Some y → Member y xs × (p y ≡ true)
  find_some p [] y e = cc
  find_some p (x ∷ xs) y e =
      elim (p x) as (λ b. p x ≡ b → cond b (Some x) (find p xs) ≡ Some y → Member y (x ∷ xs) × (p y ≡ true)) [
        | true ↦ λ h k. let same = some_is x y k in (inl same, ap p (sym same) ∙ h)
        | false ↦ λ h k. let later = find_some p xs y k in (inr later.0, later.1)
      ] refl e

  pub find_none : (p : X → Bool) (xs : List X) → find p xs ≡ None → (y : X) → Member y xs → p y ≡ false
  find_none p [] e y m = absurd m
  find_none p (x ∷ xs) e y m =
      elim (p x) as (λ b. p x ≡ b → cond b (Some x) (find p xs) ≡ None → p y ≡ false) [
        | true ↦ λ h k. cc
        | false ↦ λ h k. elim m [ inl same ↦ ap p (sym same) ∙ h | inr later ↦ find_none p xs k y later ]
      ] refl e

  -- where one member at most passes a test, the order makes no difference to what is found
  pub find_same : (p : X → Bool) (xs ys : List X) → IsPermutation xs ys → count_by p xs ≤ 1 → find p xs ≡ find p ys
  find_same p xs ys s few = go (find p xs) (find p ys) refl refl
    where
      go : (a b : Option X) → find p xs ≡ a → find p ys ≡ b → a ≡ b
      go None None e f = refl
      go None (Some y) e f =
          let found = find_some p ys y f in
          absurd (both_ways (p y) (find_none p xs e y (member_before xs ys s y found.0)) found.1)
      go (Some x) None e f =
          let found = find_some p xs x e in
          absurd (both_ways (p x) (find_none p ys f x (member_after xs ys s x found.0)) found.1)
      go (Some x) (Some y) e f =
          let found = find_some p xs x e in
          let other = find_some p ys y f in
          ap Some (count_one p xs few x y found.0 (member_before xs ys s y other.0) found.1 other.1)
