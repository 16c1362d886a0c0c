-- A table of where keys stand first in a list.
use Rattle.std.specs.Prelude.{List, None, Option, Some, [], cond, eqb, length, suc, ℕ, ◌≡◌, ◌∷◌}
use Rattle.std.specs.HashMap.{get}
use Rattle.std.specs.Option.{option_map}
use Rattle.lf_emit.specs.declared.places.Places.{Places}

-- the first place of a key
abbrev pub place_in : List ℕ → ℕ → Option ℕ
place_in [] k = None
place_in (x ∷ xs) k = cond (eqb k x) (Some 0) (option_map (λ n. suc n) (place_in xs k))

-- the table is of these keys
pub record HasPlaces (table : Places) (keys : List ℕ) : Type 0 where
  pub count_is : table.count ≡ length keys
  pub places_are : (k : ℕ) → get eqb table.places k ≡ place_in keys k
