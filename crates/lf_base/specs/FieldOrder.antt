-- A walk over a row's fields, from each to the one after it.
use Rattle.std.specs.Prelude.{List, None, Option, Some, [], cond, ◌∷◌}
use Rattle.lf_base.specs.declared.values.Key.{Key}
use Rattle.lf_base.specs.declared.values.Value.{Value}
use Rattle.lf_base.specs.Links.{head_or}
use Rattle.lf_base.specs.Names.{same_key}

-- the field after that of a key, where there is one
abbrev pub field_past : List (Key × Value) → Key → Option (Key × Value)
field_past [] k = None
field_past (f ∷ fs) k = cond (same_key k f.0) (head_or fs None) (field_past fs k)

-- the first field where no key is given, and else the one after the field of that key
abbrev pub field_after : List (Key × Value) → Option Key → Option (Key × Value)
field_after fs None = head_or fs None
field_after fs (Some k) = field_past fs k
