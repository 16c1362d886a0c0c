-- Frozen rows by rising name, what such a list says of a name, and what becomes of it as rows are added.
use Rattle.std.specs.Prelude.{Bool, List, Option, find, map, true, [], ◌∷◌, if◌then◌else◌}
use Rattle.std.specs.List.{list_any}
use Rattle.std.specs.Option.{option_map_or}
use Rattle.lf_base.specs.declared.ids.ObjId.{ObjId}
use Rattle.lf_base.specs.declared.values.Owner.TheVariants.{Frozen}
use Rattle.lf_base.specs.Names.{name_below, same_name}
use Rattle.lf_base.specs.PlainState.{Row}
use Rattle.lf_base.specs.Sets.{Differ, InOrder}
use Rattle.lf_frozen.specs.declared.row.FrozenRow.{FrozenRow}

-- the names of the rows
abbrev pub frozen_names : List FrozenRow → List ObjId
frozen_names rows = map (λ row. row.id) rows

-- the rows stand by rising name, so that no name is there twice
abbrev pub RiseByName : List FrozenRow → Type 0
RiseByName rows = InOrder name_below (frozen_names rows)

-- no two of the rows have one name
abbrev pub FrozenNamesDiffer : List FrozenRow → Type 0
FrozenNamesDiffer rows = Differ same_name (frozen_names rows)

-- a row of this name is in the list
abbrev pub has_frozen_row : List FrozenRow → ObjId → Bool
has_frozen_row rows o = list_any (λ row. same_name row.id o) rows

-- the row of this name, if it is in the list
abbrev pub frozen_at : List FrozenRow → ObjId → Option FrozenRow
frozen_at rows o = find (λ row. same_name row.id o) rows

-- the name is above that one, where one is given
abbrev pub comes_after : Option ObjId → ObjId → Bool
comes_after after name = option_map_or (λ a. name_below a name) after true

-- the first row whose name is above that one, or the first row where no name is given
abbrev pub next_frozen : List FrozenRow → Option ObjId → Option FrozenRow
next_frozen rows after = find (λ row. comes_after after row.id) rows

-- the rows with a further one, ahead of the first greater name
abbrev pub with_frozen : FrozenRow → List FrozenRow → List FrozenRow
with_frozen row [] = row ∷ []
with_frozen row (first ∷ rows) = if name_below row.id first.id then row ∷ first ∷ rows else first ∷ with_frozen row rows

-- a list by rising name with further rows, in whatever order they come
abbrev pub with_all_frozen : List FrozenRow → List FrozenRow → List FrozenRow
with_all_frozen [] rows = rows
with_all_frozen (row ∷ more) rows = with_frozen row (with_all_frozen more rows)

-- the row as a state has it
abbrev pub as_row : FrozenRow → Row
as_row row = record { name = row.id; owner = Frozen; fields = row.fields }
