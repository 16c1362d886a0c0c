use Rattle.std.proofs.Common.{List, drop, map, ◌++◌, ◌≡◌}
use Rattle.std.specs.List.{All}
use Rattle.lf_frozen.specs.declared.row.FrozenRow.{FrozenRow}
use Rattle.lf_frozen.specs.Entries.{LeadsToRow, row_behind, rows_of_tables}
use Rattle.lf_frozen.proofs.draft.collect.Given as goal

-- what was added, and what is to come, are the rows of all tables
abbrev pub invariant-loop-table : goal.invariant-loop-table
invariant-loop-table l = record {
  rows : (own : List FrozenRow)
      → map (row_behind own) l.entries.items ++ rows_of_tables (drop l.table-index l.tables) ≡ map (row_behind own) l.fn.entries.items ++ rows_of_tables l.tables;
  leads : (own : List FrozenRow) → All (LeadsToRow own) l.fn.entries.items → All (LeadsToRow own) l.entries.items;
}
