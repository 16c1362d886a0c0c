-- What is found in a list after one place of it was set.
use Rattle.std.proofs.Common.{List, Some, [], ap, refl, set, suc, zero, ℕ, ◌∷◌, ◌≡◌}
use Rattle.std.specs.List.{slice_get}

pub set_here : {X : Type 0} (xs : List X) (i : ℕ) (v x : X) → slice_get xs i ≡ Some x → slice_get (set xs i v) i ≡ Some v
set_here [] i v x e = cc
set_here (y ∷ xs) zero v x e = refl
set_here (y ∷ xs) (suc i) v x e = set_here xs i v x e

pub set_there : {X : Type 0} (xs : List X) (i j : ℕ) (v : X) → (j ≡ i → ⊥) → slice_get (set xs i v) j ≡ slice_get xs j
set_there [] i j v apart = refl
set_there (y ∷ xs) zero zero v apart = absurd (apart refl)
set_there (y ∷ xs) zero (suc j) v apart = refl
set_there (y ∷ xs) (suc i) zero v apart = refl
set_there (y ∷ xs) (suc i) (suc j) v apart = set_there xs i j v (λ e. apart (ap suc e))
