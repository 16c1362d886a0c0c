use Rattle.std.proofs.Common.{take, ◌≡◌}
use Rattle.lf_graph.specs.FlatParts.{rows_cells}
use Rattle.lf_graph.proofs.flat_part.counted_cells.Given as goal

abbrev pub invariant-loop-row : goal.invariant-loop-row
invariant-loop-row l = l.cells ≡ rows_cells (take l.row-index l.rows)
