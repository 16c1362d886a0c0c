-- A map with further rows, but for their batch. No public clause cites this module.
use Rattle.std.specs.Prelude.{IsPermutation, List, map, ◌++◌, ◌<◌}
use Rattle.std.specs.Arc.{arc_value}
use Rattle.std.specs.List.{All}
use Rattle.std.specs.Vec.{vec_capacity, vec_len}
use Rattle.lf_frozen.specs.declared.draft.Draft.{Draft}
use Rattle.lf_frozen.specs.declared.row.FrozenRow.{FrozenRow}
use Rattle.lf_frozen.specs.Entries.{EntriesRise, LeadsToRow, row_behind, rows_of_tables}

-- with the batch of these rows, the draft has them and the rows of these tables, and it has room for their table
pub record IsDraft (rows : List FrozenRow) (tables : List (List FrozenRow)) (draft : Draft) : Type 0 where
  pub leads : All (LeadsToRow rows) (arc_value draft.entries).items
  pub rising : EntriesRise (arc_value draft.entries).items
  pub all : IsPermutation (rows ++ rows_of_tables tables) (rows_of_tables draft.tables.items ++ map (row_behind rows) (arc_value draft.entries).items)
  pub room : vec_len draft.tables < vec_capacity draft.tables
