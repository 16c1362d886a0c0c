-- Members of a list, lists without repeats, lists in order, and the greatest and least sets that a rule picks out.
use Rattle.std.specs.Prelude.{Bool, List, [], false, filter, length, suc, true, zero, ℕ, ◌∷◌, ◌≡◌, ◌⊎◌}
use Rattle.std.specs.List.{list_any}

-- x stands in the list
abbrev pub Member : {X : Type 0} → X → List X → Type 0
Member x [] = ⊥
Member x (y ∷ ys) = (y ≡ x) ⊎ Member x ys

-- no two items of the list are the same
abbrev pub Differ : {X : Type 0} → (X → X → Bool) → List X → Type 0
Differ same [] = Unit {0}
Differ same (x ∷ xs) = (list_any (λ y. same y x) xs ≡ false) × Differ same xs

-- each item comes before the next one
abbrev pub InOrder : {X : Type 0} → (X → X → Bool) → List X → Type 0
InOrder before [] = Unit {0}
InOrder before (x ∷ []) = Unit {0}
InOrder before (x ∷ (y ∷ ys)) = (before x y ≡ true) × InOrder before (y ∷ ys)

-- what is left of a list after n rounds, each of which takes out all items that the others don't justify
abbrev pub shrink : {X : Type 0} → (List X → X → Bool) → ℕ → List X → List X
shrink justifies zero xs = xs
shrink justifies (suc n) xs = shrink justifies n (filter (justifies xs) xs)

-- the greatest part of a list each item of which the part itself justifies
abbrev pub greatest : {X : Type 0} → (List X → X → Bool) → List X → List X
greatest justifies xs = shrink justifies (length xs) xs

-- what n rounds put into a set, each of which puts in all items that the set brings in
abbrev pub grow : {X : Type 0} → (List X → X → Bool) → List X → ℕ → List X → List X
grow brings all zero xs = xs
grow brings all (suc n) xs = grow brings all n (filter (brings xs) all)

-- the least part of a list that has each item that the part itself brings in
abbrev pub least : {X : Type 0} → (List X → X → Bool) → List X → List X
least brings all = grow brings all (length all) []
