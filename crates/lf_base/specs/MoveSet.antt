-- The rows that move with a value into a region.
use Rattle.std.specs.Prelude.{List, ◌&&◌, ◌||◌, ◌≡◌}
use Rattle.std.specs.List.{list_any}
use Rattle.lf_base.specs.declared.values.Owner.TheVariants.{Local}
use Rattle.lf_base.specs.declared.values.Value.{Value}
use Rattle.lf_base.specs.Edges.{field_targets}
use Rattle.lf_base.specs.Names.{is_local, targets_of_value}
use Rattle.lf_base.specs.Owners.{has_name}
use Rattle.lf_base.specs.PlainState.{Row, State}
use Rattle.lf_base.specs.Sets.{Member, least}

-- the rows at the end of a path of local rows from v, the row of v itself among them
abbrev pub move_set : State → Value → List Row
move_set s v = least (λ found row. is_local row.owner
    && (has_name (targets_of_value v) row.name || list_any (λ x. has_name (field_targets x.fields) row.name) found)) s.rows

-- such a path, by its last row: it begins at a local row that v names, and goes on to a local row that a field of the row before names
pub data LocalPath (s : State) (v : Value) : Row → Type 0 where
  starts : {y : Row} → Member y s.rows → y.owner ≡ Local → Member y.name (targets_of_value v) → LocalPath s v y
  continues : {x y : Row} → LocalPath s v x → Member y s.rows → y.owner ≡ Local → Member y.name (field_targets x.fields) → LocalPath s v y
