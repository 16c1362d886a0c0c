-- What a filter leaves of a list: its members and its length.
use Rattle.std.proofs.Common.{Bool, List, [], ap, arith, cond, false, inl, inr, length, refl, subst, sym, true, ◌<◌, ◌∙◌, ◌∷◌, ◌≡◌, ◌≤◌, ◌⊎◌}
use Rattle.std.specs.List.{filter}
use Rattle.lf_base.specs.Sets.{Member}

module _ {X : Type 0} (p : X → Bool) where
  pub length_filter_le : (xs : List X) → length (filter p xs) ≤ length xs
  length_filter_le [] = omega arith
  length_filter_le (x ∷ xs) =
      elim (p x) as (λ b. length (cond b (x ∷ filter p xs) (filter p xs)) ≤ length (x ∷ xs)) [
        | true ↦ omega (arith, length_filter_le xs)
        | false ↦ omega (arith, length_filter_le xs)
      ]

  pub filter_full : (xs : List X) → length (filter p xs) ≡ length xs → filter p xs ≡ xs
  filter_full [] e = refl
  filter_full (x ∷ xs) e =
      elim (p x) as (λ b. length (cond b (x ∷ filter p xs) (filter p xs)) ≡ length (x ∷ xs) → cond b (x ∷ filter p xs) (filter p xs) ≡ x ∷ xs) [
        | true ↦ λ h. ap (λ ys. x ∷ ys) (filter_full xs (omega (arith, h)))
        | false ↦ λ h. absurd (omega (arith, length_filter_le xs, h))
      ] e

  pub Member_filter : (x : X) (xs : List X) → Member x xs → p x ≡ true → Member x (filter p xs)
  Member_filter x [] h e = h
  Member_filter x (y ∷ ys) (inl same) e =
      subst (λ b. Member x (cond b (y ∷ filter p ys) (filter p ys))) (sym (ap p same ∙ e)) (inl same)
  Member_filter x (y ∷ ys) (inr h) e =
      elim (p y) as (λ b. Member x (cond b (y ∷ filter p ys) (filter p ys))) [
        | true ↦ inr (Member_filter x ys h e)
        | false ↦ Member_filter x ys h e
      ]

  pub Member_of_filter : (x : X) (xs : List X) → Member x (filter p xs) → Member x xs × (p x ≡ true)
  Member_of_filter x [] h = absurd h
  Member_of_filter x (y ∷ ys) h =
      elim (p y) as (λ b. p y ≡ b → Member x (cond b (y ∷ filter p ys) (filter p ys)) → Member x (y ∷ ys) × (p x ≡ true)) [
        | true ↦ λ e m. elim m [ inl same ↦ (inl same, sym (ap p same) ∙ e) | inr k ↦ let r = Member_of_filter x ys k in (inr r.0, r.1) ]
        | false ↦ λ e m. let r = Member_of_filter x ys m in (inr r.0, r.1)
      ] refl h

pub full_or_less : {X : Type 0} (p : X → Bool) (xs : List X) → (length (filter p xs) ≡ length xs) ⊎ (length (filter p xs) < length xs)
full_or_less p xs = grind (arith, length_filter_le p xs)

-- where one test implies another, one filter is shorter, and equal lengths make them equal
pub filter_le : {X : Type 0} (p q : X → Bool) → ((x : X) → p x ≡ true → q x ≡ true) → (xs : List X) → length (filter p xs) ≤ length (filter q xs)
filter_le p q h [] = omega arith
filter_le p q h (x ∷ xs) =
    elim (p x) as (λ b. p x ≡ b → length (cond b (x ∷ filter p xs) (filter p xs)) ≤ length (filter q (x ∷ xs))) [
      | true ↦ λ e. subst (λ c. length (x ∷ filter p xs) ≤ length (cond c (x ∷ filter q xs) (filter q xs))) (sym (h x e)) (omega (arith, filter_le p q h xs))
      | false ↦ λ e. elim (q x) as (λ c. length (filter p xs) ≤ length (cond c (x ∷ filter q xs) (filter q xs))) [ true ↦ omega (arith, filter_le p q h xs) | false ↦ filter_le p q h xs ]
    ] refl

pub filter_same : {X : Type 0} (p q : X → Bool) → ((x : X) → p x ≡ true → q x ≡ true) → (xs : List X) → length (filter p xs) ≡ length (filter q xs) → filter p xs ≡ filter q xs
filter_same p q h [] e = refl
filter_same p q h (x ∷ xs) e =
    elim (p x) as (λ b. p x ≡ b → length (cond b (x ∷ filter p xs) (filter p xs)) ≡ length (filter q (x ∷ xs)) → cond b (x ∷ filter p xs) (filter p xs) ≡ filter q (x ∷ xs)) [
      | true ↦ λ t k.
          let r : filter q (x ∷ xs) ≡ x ∷ filter q xs = ap (λ c. cond c (x ∷ filter q xs) (filter q xs)) (h x t) in
          ap (λ l. x ∷ l) (filter_same p q h xs (omega (arith, k, ap length r))) ∙ sym r
      | false ↦ λ t k. elim (q x) as (λ c. length (filter p xs) ≡ length (cond c (x ∷ filter q xs) (filter q xs)) → filter p xs ≡ cond c (x ∷ filter q xs) (filter q xs)) [
        | true ↦ λ m. absurd (omega (arith, m, filter_le p q h xs))
        | false ↦ λ m. filter_same p q h xs m
      ] k
    ] refl e

pub none_filter : {X : Type 0} (p : X → Bool) (xs : List X) → length xs ≤ 0 → filter p xs ≡ []
none_filter p [] h = refl
none_filter p (x ∷ xs) h = absurd (omega arith)

-- two filters one after the other, in either order
pub filter_swap : {X : Type 0} (p q : X → Bool) (xs : List X) → filter p (filter q xs) ≡ filter q (filter p xs)
filter_swap p q [] = refl
filter_swap p q (x ∷ xs) =
    elim (p x) as (λ b. p x ≡ b → filter p (filter q (x ∷ xs)) ≡ filter q (cond b (x ∷ filter p xs) (filter p xs))) [
      | true ↦ λ e. elim (q x) as (λ c. filter p (cond c (x ∷ filter q xs) (filter q xs)) ≡ cond c (x ∷ filter q (filter p xs)) (filter q (filter p xs))) [
        | true ↦ ap (λ b. cond b (x ∷ filter p (filter q xs)) (filter p (filter q xs))) e ∙ ap (λ l. x ∷ l) (filter_swap p q xs)
        | false ↦ filter_swap p q xs
      ]
      | false ↦ λ e. elim (q x) as (λ c. filter p (cond c (x ∷ filter q xs) (filter q xs)) ≡ filter q (filter p xs)) [
        | true ↦ ap (λ b. cond b (x ∷ filter p (filter q xs)) (filter p (filter q xs))) e ∙ filter_swap p q xs
        | false ↦ filter_swap p q xs
      ]
    ] refl

-- what all members pass leaves the list
pub filter_all : {X : Type 0} (p : X → Bool) (xs : List X) → ((x : X) → Member x xs → p x ≡ true) → filter p xs ≡ xs
filter_all p [] h = refl
filter_all p (x ∷ xs) h = ap (λ b. cond b (x ∷ filter p xs) (filter p xs)) (h x (inl refl)) ∙ ap (λ l. x ∷ l) (filter_all p xs (λ y m. h y (inr m)))
