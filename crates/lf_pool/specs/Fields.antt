-- Chains of fields.
use Rattle.std.specs.Prelude.{Bool, false, cond, List, [], ◌∷◌, Option, Some, None, ℕ}
use Rattle.lf_base.specs.declared.values.Key.{Key}
use Rattle.lf_base.specs.declared.values.Value.{Value}
use Rattle.lf_base.specs.Names.{same_key}
use Rattle.lf_pool.specs.declared.cell.Cell.{Cell}
use Rattle.lf_pool.specs.Cells.{item_at}

-- the cell has that key
abbrev pub is_keyed : Key → Option (Key × Value) → Bool
is_keyed k None = false
is_keyed k (Some p) = same_key p.0 k

-- the first of these cells that has that key
abbrev pub first_with : List (Cell (Key × Value)) → Key → List ℕ → Option ℕ
first_with cells k [] = None
first_with cells k (x ∷ xs) = cond (is_keyed k (item_at cells x)) (Some x) (first_with cells k xs)
