use Rattle.std.proofs.Common.{List, drop, map, ◌++◌, ◌≡◌}
use Rattle.std.specs.Arc.{arc_value}
use Rattle.std.specs.List.{All}
use Rattle.lf_frozen.specs.declared.row.FrozenRow.{FrozenRow}
use Rattle.lf_frozen.specs.Entries.{LeadsToRow, row_behind}
use Rattle.lf_frozen.proofs.table.Table.add_to.Given as goal

-- what was added, and what is to come, are the table's rows
abbrev pub invariant-loop-entry : goal.invariant-loop-entry
invariant-loop-entry l = record {
  rows : (own : List FrozenRow)
      → map (row_behind own) l.entries.items ++ map (row_behind (arc_value l.self-inside.batch)) (drop l.entry-index l.entry-items) ≡ map (row_behind own) l.fn.entries.items ++ l.self;
  leads : (own : List FrozenRow) → All (LeadsToRow own) l.fn.entries.items → All (LeadsToRow own) l.entries.items;
  each : All (LeadsToRow (arc_value l.self-inside.batch)) l.entry-items;
}
