-- Sums and counts over lists that are joined or made of lists.
use Rattle.std.proofs.Common.{Bool, List, [], ap, arith, cond, refl, sym, ℕ, ◌++◌, ◌+◌, ◌∙◌, ◌∷◌, ◌≡◌}
use Rattle.std.proofs.lemmas.List.Sums.{sum_by-append, sum_by-cons}
use Rattle.std.specs.List.{count_by, flat_map, sum_by}

pub count_flat_map : {X Y : Type 0} (p : Y → Bool) (f : X → List Y) (xs : List X) → count_by p (flat_map f xs) ≡ sum_by (λ x. count_by p (f x)) xs
count_flat_map p f [] = refl
count_flat_map p f (x ∷ xs) =
    sum_by-append (λ y. cond (p y) 1 0) (f x) (flat_map f xs) ∙ ap (λ n. count_by p (f x) + n) (count_flat_map p f xs)
    ∙ sym (sum_by-cons (λ z. count_by p (f z)) x xs)

pub sum_same : {X : Type 0} (f g : X → ℕ) → ((x : X) → f x ≡ g x) → (xs : List X) → sum_by f xs ≡ sum_by g xs
sum_same f g h [] = refl
sum_same f g h (x ∷ xs) = omega (arith, sum_by-cons f x xs, sum_by-cons g x xs, h x, sum_same f g h xs)

pub count_middle : {X : Type 0} (p : X → Bool) (a b c : List X) → count_by p (a ++ (b ++ c)) ≡ count_by p a + (count_by p b + count_by p c)
count_middle p a b c = sum_by-append (λ x. cond (p x) 1 0) a (b ++ c) ∙ ap (λ n. count_by p a + n) (sum_by-append (λ x. cond (p x) 1 0) b c)
