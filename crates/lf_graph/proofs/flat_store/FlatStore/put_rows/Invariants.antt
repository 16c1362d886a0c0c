use Rattle.std.proofs.Common.{map, take, ◌+◌, ◌++◌, ◌≤◌}
use Rattle.lf_graph.specs.FlatParts.{part_row, rows_cells}
use Rattle.lf_graph.specs.StoredRows.{SameByOwner}
use Rattle.lf_graph.proofs.flat_store.FlatStore.put_rows.Given as goal

abbrev pub invariant-loop-row : goal.invariant-loop-row
invariant-loop-row l = SameByOwner l.self.rows (l.initial.self.rows ++ map (part_row l.region) (take l.row-index l.rows)) × (l.initial.self.spare ≤ l.self.spare + rows_cells (take l.row-index l.rows))
