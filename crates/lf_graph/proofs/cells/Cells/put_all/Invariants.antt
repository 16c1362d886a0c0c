use Rattle.std.proofs.Common.{◌+◌, ◌≤◌}
use Rattle.lf_graph.specs.Cells.{cells_of, cells_room}
use Rattle.lf_graph.proofs.FieldTable.FieldCopies.{FieldsPut}
use Rattle.lf_graph.proofs.cells.Cells.put_all.Given as goal

abbrev pub invariant-loop-field : goal.invariant-loop-field
invariant-loop-field l = FieldsPut (cells_of l.initial.self) (cells_of l.self) l.o l.ends l.fields l.field-index × (cells_room l.initial.self ≤ cells_room l.self + l.field-index)
