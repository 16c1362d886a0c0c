-- Lists and tests, where std's library has no lemma.
use Rattle.std.proofs.Common.{Bool, List, Some, [], ap, cond, false, length, refl, slice_get, sym, take, true, ℕ, ◌+◌, ◌++◌, ◌||◌, ◌∙◌, ◌∷◌, ◌≡◌, ◌≤◌}
use Rattle.std.specs.Bool.{Decides}
use Rattle.std.specs.Cmp.{IsEquivalence, both_ways}
use Rattle.std.specs.List.{AllByRecursion, IsDistinct, filter, list_any}
use Rattle.std.specs.Map.{lookup}
use Rattle.std.specs.Option.{IsSome}
use Rattle.std.proofs.lemmas.List.{take_more}
use Rattle.std.proofs.lemmas.Map.Keys.{IsDistinct-cons}
use Rattle.std.proofs.lemmas.Map.Steps.{length-le_from_keys}
use Rattle.std.proofs.lemmas.Option.{get_or_from_slice_get, slice_get_within}
use Rattle.lf_base.specs.Links.{Lacks, NodesDiffer, has}

pub cond_same : {X : Type 0} (b : Bool) (x : X) → cond b x x ≡ x
cond_same true x = refl
cond_same false x = refl

-- one more item is taken
pub take_next : {X : Type 0} (xs : List X) (i : ℕ) (x : X) → slice_get xs i ≡ Some x → take (i + 1) xs ≡ take i xs ++ x ∷ []
take_next xs i x e = take_more xs i x (slice_get_within xs i x e) ∙ ap (λ y. take i xs ++ y ∷ []) (get_or_from_slice_get xs i x x e)

-- ---- two tests, one after the other
module _ {X : Type 0} (p q : X → Bool) where
  pub filter_turns : (xs : List X) → filter p (filter q xs) ≡ filter q (filter p xs)
  filter_turns [] = refl
  filter_turns (x ∷ xs) =
      elim (q x) as (λ b. q x ≡ b → filter p (cond b (x ∷ filter q xs) (filter q xs)) ≡ filter q (cond (p x) (x ∷ filter p xs) (filter p xs))) [
        | true ↦ λ e. elim (p x) as (λ a. cond a (x ∷ filter p (filter q xs)) (filter p (filter q xs)) ≡ filter q (cond a (x ∷ filter p xs) (filter p xs))) [
          | true ↦ ap (λ l. x ∷ l) (filter_turns xs) ∙ sym (ap (λ b. cond b (x ∷ filter q (filter p xs)) (filter q (filter p xs))) e)
          | false ↦ filter_turns xs
        ]
        | false ↦ λ e. elim (p x) as (λ a. filter p (filter q xs) ≡ filter q (cond a (x ∷ filter p xs) (filter p xs))) [
          | true ↦ filter_turns xs ∙ sym (ap (λ b. cond b (x ∷ filter q (filter p xs)) (filter q (filter p xs))) e)
          | false ↦ filter_turns xs
        ]
      ] refl

  pub filter_apart : ((x : X) → q x ≡ true → p x ≡ false) → (xs : List X) → filter p (filter q xs) ≡ []
  filter_apart h [] = refl
  filter_apart h (x ∷ xs) =
      elim (q x) as (λ b. q x ≡ b → filter p (cond b (x ∷ filter q xs) (filter q xs)) ≡ []) [
        | true ↦ λ e. ap (λ b. cond b (x ∷ filter p (filter q xs)) (filter p (filter q xs))) (h x e) ∙ filter_apart h xs
        | false ↦ λ e. filter_apart h xs
      ] refl

  pub filter_within : ((x : X) → p x ≡ true → q x ≡ true) → (xs : List X) → filter p (filter q xs) ≡ filter p xs
  filter_within h [] = refl
  filter_within h (x ∷ xs) =
      elim (q x) as (λ b. q x ≡ b → filter p (cond b (x ∷ filter q xs) (filter q xs)) ≡ cond (p x) (x ∷ filter p xs) (filter p xs)) [
        | true ↦ λ e. ap (λ l. cond (p x) (x ∷ l) l) (filter_within h xs)
        | false ↦ λ e. filter_within h xs
            ∙ (elim (p x) as (λ a. p x ≡ a → filter p xs ≡ cond a (x ∷ filter p xs) (filter p xs)) [
              | true ↦ λ k. let y = h x k in cc
              | false ↦ λ k. refl
            ] refl)
      ] refl

-- ---- a list without repeats whose items are keys of a map is no longer than the map
module _ {K : Type 0} (same : K → K → Bool) (decides : (a b : K) → Decides (same a b) (a ≡ b)) where
  names_equal : IsEquivalence same
  names_equal = record {
    refl = λ x. (decides x x).1 refl;
    symm = λ x y. both_ways (same x y) (same y x) (turned x y) (turned y x);
    congr = λ x y z e. ap (λ u. same u z) ((decides x y).0 e);
  } where
    turned : (x y : K) → same x y ≡ true → same y x ≡ true
    turned x y e = (decides y x).1 (sym ((decides x y).0 e))

  all_apart : (x : K) (xs : List K) → Lacks same x xs → AllByRecursion (λ y. same x y ≡ false) xs
  all_apart x [] l = tt
  all_apart x (y ∷ ys) l = (l.0, all_apart x ys l.1)

  distinct : (xs : List K) → NodesDiffer same xs → IsDistinct same xs
  unfolding IsDistinct
  distinct [] d = tt
  distinct (x ∷ xs) d = IsDistinct-cons same x xs (all_apart x xs d.0) (distinct xs d.1)

  any_has : (q : K) (xs : List K) → list_any (same q) xs ≡ has same q xs
  any_has q [] = refl
  any_has q (x ∷ xs) = ap (λ b. same q x || b) (any_has q xs)

  pub few_keys : {V : Type 0} (entries : List (K × V)) (xs : List K) → NodesDiffer same xs → ((q : K) → has same q xs ≡ true → IsSome (lookup (same q) entries)) → length xs ≤ length entries
  few_keys entries xs d h = length-le_from_keys names_equal xs entries (distinct xs d) (λ q e. h q (sym (any_has q xs) ∙ e))
