-- Loops that go over a list from its start.
use Rattle.std.proofs.Common.{◌≡◌, ℕ, ◌+◌, ◌<◌, List, [], ◌∷◌, ◌++◌, length, take, get_or, map, flat_map, fold, ap, sym, ◌∙◌}
use Rattle.std.proofs.lemmas.List.{take_more, flat_map_more, map-append}
use Rattle.std.proofs.lemmas.List.Sums.{fold-append}

-- what f makes of one item more
pub flat_step : {X A : Type 0} (f : X → List A) (bs : List A) (xs : List X) (i : ℕ) (d : X) → i < length xs
    → (bs ++ flat_map f (take i xs)) ++ f (get_or xs i d) ≡ bs ++ flat_map f (take (i + 1) xs)
flat_step f bs xs i d h = flat_map_more f bs (take i xs) (get_or xs i d) ∙ ap (λ l. bs ++ flat_map f l) (sym (take_more xs i d h))

-- what f makes of one item more is folded in
pub fold_flat_step : {X Y A : Type 0} (g : A → Y → A) (f : X → List Y) (a : A) (xs : List X) (i : ℕ) (d : X) → i < length xs
    → fold g (fold g a (flat_map f (take i xs))) (f (get_or xs i d)) ≡ fold g a (flat_map f (take (i + 1) xs))
fold_flat_step g f a xs i d h = sym (fold-append g a (flat_map f (take i xs)) (f (get_or xs i d))) ∙ ap (fold g a) (flat_step f [] xs i d h)

-- what f makes of one item more, put last
pub map_step : {X A : Type 0} (f : X → A) (xs : List X) (i : ℕ) (d : X) → i < length xs
    → map f (take i xs) ++ f (get_or xs i d) ∷ [] ≡ map f (take (i + 1) xs)
map_step f xs i d h = sym (map-append f (take i xs) (get_or xs i d ∷ [])) ∙ ap (map f) (sym (take_more xs i d h))

-- the same, for an item that was read
pub map_item : {X A : Type 0} (f : X → A) (xs : List X) (i : ℕ) (x : X) → i < length xs → x ≡ get_or xs i x
    → map f (take i xs) ++ f x ∷ [] ≡ map f (take (i + 1) xs)
map_item f xs i x h e = ap (λ y. map f (take i xs) ++ f y ∷ []) e ∙ map_step f xs i x h

-- one item more was folded in, by what a call says of it
pub folded : {X Y A : Type 0} (g : A → Y → A) (f : X → List Y) (a : A) (xs : List X) (i : ℕ) (d : X) → i < length xs → (old new : A)
    → new ≡ fold g old (f (get_or xs i d)) → old ≡ fold g a (flat_map f (take i xs)) → new ≡ fold g a (flat_map f (take (i + 1) xs))
folded g f a xs i d h old new e o = e ∙ ap (λ r. fold g r (f (get_or xs i d))) o ∙ fold_flat_step g f a xs i d h

-- what f makes of what g makes of one item more
pub mapped : {X Y A : Type 0} (f : Y → A) (g : X → Y) (xs : List X) (i : ℕ) (x : X) → i < length xs → x ≡ get_or xs i x
    → map f (map g (take i xs)) ++ f (g x) ∷ [] ≡ map f (map g (take (i + 1) xs))
mapped f g xs i x h e = sym (map-append f (map g (take i xs)) (g x ∷ [])) ∙ ap (map f) (map_item g xs i x h e)

-- the same, folded in
pub flat_mapped : {X Y Z A : Type 0} (h : A → Z → A) (f : Y → List Z) (g : X → Y) (a : A) (xs : List X) (i : ℕ) (x : X) → i < length xs
    → x ≡ get_or xs i x
    → fold h (fold h a (flat_map f (map g (take i xs)))) (f (g x)) ≡ fold h a (flat_map f (map g (take (i + 1) xs)))
flat_mapped h f g a xs i x l e =
    sym (fold-append h a (flat_map f (map g (take i xs))) (f (g x)))
    ∙ ap (fold h a) (flat_map_more f [] (map g (take i xs)) (g x) ∙ ap (flat_map f) (map_item g xs i x l e))
