-- Lists that ascend: each item comes before all that stand after it.
use Rattle.std.specs.Prelude.{◌≡◌, Bool, true, List, [], ◌∷◌}
use Rattle.lf_base.specs.Sets.{Member}

abbrev pub Ascending : {X : Type 0} → (X → X → Bool) → List X → Type 0
Ascending before [] = Unit {0}
Ascending before (x ∷ xs) = ((y : _) → Member y xs → before x y ≡ true) × Ascending before xs
