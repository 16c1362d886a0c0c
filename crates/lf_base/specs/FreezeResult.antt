-- Freezing.
use Rattle.std.specs.Prelude.{Bool, List, Some, [], filter, map, not, true, ◌&&◌, ◌||◌, ◌∷◌, ◌≡◌}
use Rattle.std.specs.List.{list_any}
use Rattle.lf_base.specs.declared.values.Owner.TheVariants.{Frozen}
use Rattle.lf_base.specs.declared.values.Value.{Value}
use Rattle.lf_base.specs.Edges.{field_targets}
use Rattle.lf_base.specs.Names.{targets_of_value}
use Rattle.lf_base.specs.Owners.{has_name, has_row, is_in}
use Rattle.lf_base.specs.PlainChanges.{insert_row}
use Rattle.lf_base.specs.PlainState.{Row, State}
use Rattle.lf_base.specs.Sets.{Member, least}

-- row x brings in row y: a field of x names y, or x is the bridge of y's region
abbrev pub brings_in : Row → Row → Bool
brings_in x y = has_name (field_targets x.fields) y.name || (is_in x.name (Some (x.owner)) && is_in x.name (Some (y.owner)))

-- the rows that become frozen: the least set with the row that v names, with what each row points to, and with the
-- whole region of each bridge
abbrev pub freeze_set : State → Value → List Row
freeze_set s v = least (λ found row. has_name (targets_of_value v) row.name || list_any (λ x. brings_in x row) found) s.rows

-- a set of rows has what a freeze of v must take: the mutable row that v names, and each mutable row that one of its rows brings in
pub record FreezeClosed (s : State) (v : Value) (rows : List Row) : Type 0 where
  pub first : (y : Row) → Member y s.rows → Member y.name (targets_of_value v) → Member y rows
  pub next : (x y : Row) → Member x rows → Member y s.rows → brings_in x y ≡ true → Member y rows

-- a set of rows put among them
abbrev pub insert_rows : List Row → List Row → List Row
insert_rows [] ys = ys
insert_rows (x ∷ xs) ys = insert_row x (insert_rows xs ys)

-- the row as a frozen one, with the same fields
abbrev pub frozen_row : Row → Row
frozen_row r = record r { owner = Frozen }

-- the rows of the set leave the mutable rows and become frozen rows that the state froze itself
abbrev pub freeze_result : State → Value → State
freeze_result s v = record s {
  rows = filter (λ r. not (has_row (freeze_set s v) r.name)) s.rows;
  own = insert_rows (map frozen_row (freeze_set s v)) s.own;
}
