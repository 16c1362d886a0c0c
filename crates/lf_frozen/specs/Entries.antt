-- How tables keep rows. No public clause cites this module.
use Rattle.std.specs.Prelude.{Bool, List, None, Option, Some, count_by, flat_map, get_or, if◌then◌else◌, length, map, not, true, false, ℕ, [], ◌<◌, ◌≡◌, ◌≤◌}
use Rattle.std.specs.Arc.{arc_value}
use Rattle.std.specs.List.Sorted.{IsPartitionPoint}
use Rattle.std.specs.Option.{option_map_or}
use Rattle.lf_base.specs.declared.ids.ObjId.{ObjId}
use Rattle.lf_base.specs.Names.{name_below, same_name}
use Rattle.lf_base.specs.Sets.{InOrder}
use Rattle.lf_frozen.specs.declared.entry.RowEntry.{RowEntry}
use Rattle.lf_frozen.specs.declared.row.FrozenRow.{FrozenRow}
use Rattle.lf_frozen.specs.FrozenRows.{with_all_frozen}

-- the batch that has an entry's row, in a table of that batch
abbrev pub batch_of : List FrozenRow → RowEntry → List FrozenRow
batch_of own entry = option_map_or arc_value entry.batch own

-- the row that the entry leads to
abbrev pub row_behind : List FrozenRow → RowEntry → FrozenRow
row_behind own entry = get_or (batch_of own entry) entry.at (record { id = entry.name; fields = [] })

-- the entry leads to a row of its name
abbrev pub LeadsToRow : List FrozenRow → RowEntry → Type 0
LeadsToRow own entry = (entry.at < length (batch_of own entry)) × ((row_behind own entry).id ≡ entry.name)

-- the rows of all tables, one table after the other
abbrev pub rows_of_tables : List (List FrozenRow) → List FrozenRow
rows_of_tables tables = flat_map (λ rows. rows) tables

-- no name is there twice
abbrev pub Apart : List FrozenRow → Type 0
Apart rows = (o : ObjId) → count_by (λ row. same_name row.id o) rows ≤ 1

-- the rows by rising name
abbrev pub put_by_name : List FrozenRow → List FrozenRow
put_by_name rows = with_all_frozen rows []

-- the row of the lesser name, where both are there
abbrev pub lesser_row : Option FrozenRow → Option FrozenRow → Option FrozenRow
lesser_row None found = found
lesser_row (Some row) None = Some row
lesser_row (Some row) (Some other) = Some (if name_below row.id other.id then row else other)

-- a search for a name passes that one: it is lesser, or, where equal names are passed as well, it isn't greater
abbrev pub is_passed : ObjId → Bool → ObjId → Bool
is_passed o equal name = if equal then not (name_below o name) else name_below name o

-- the entries before that place are passed by a search, and those from it on aren't
abbrev pub IsPlace : ObjId → Bool → List RowEntry → ℕ → Type 0
IsPlace o equal entries at =
    IsPartitionPoint (λ entry. is_passed o equal entry.name ≡ true) (λ entry. is_passed o equal entry.name ≡ false) entries at

-- where the first entry stands whose name is above that one, where one is given
abbrev pub IsPlaceAfter : Option ObjId → List RowEntry → ℕ → Type 0
IsPlaceAfter None entries at = at ≡ 0
IsPlaceAfter (Some after) entries at = IsPlace after true entries at

-- the entries stand by rising name
abbrev pub EntriesRise : List RowEntry → Type 0
EntriesRise entries = InOrder name_below (map (λ entry. entry.name) entries)
