use Rattle.std.proofs.Common.{◌∙◌}
use Rattle.lf_graph.specs.Cells.{cells_of}
use Rattle.lf_graph.proofs.FieldTable.FieldPairs.{first_field_found}
use Rattle.lf_graph.proofs.cells.Cells.first.Goals as goal

pub returns : goal.returns
returns c keys list = c.field.ensures ∙ first_field_found (cells_of c.args.self.now) c.args.o c.args.ends keys list
