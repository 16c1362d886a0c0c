use Rattle.std.proofs.Common.{ap, ◌∙◌}
use Rattle.lf_graph.specs.Cells.{cells_of, pair_of}
use Rattle.lf_graph.proofs.FieldTable.FieldPairs.{field_after_found}
use Rattle.lf_graph.proofs.cells.Cells.after.Goals as goal

pub returns : goal.returns
returns c ends keys list =
    c.field.ensures ∙ ap (pair_of (cells_of c.args.self.now) c.args.o) (c.next.ensures ends keys list)
    ∙ field_after_found (cells_of c.args.self.now) c.args.o ends keys list c.args.key
