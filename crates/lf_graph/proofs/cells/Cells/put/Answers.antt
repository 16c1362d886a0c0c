use Rattle.std.proofs.Common.{Some}
use Rattle.lf_graph.proofs.FieldTable.CellMaps.{cells_updated, names_agree}
use Rattle.lf_graph.proofs.cells.Cells.put.Goals as goal

pub returns-clause-cells : goal.returns-clause-cells
returns-clause-cells c = cells_updated _ names_agree c.args.self.now.cells c.insert.new.self c.args.o c.args.key (Some c.args.cell) c.in-Ok.ensures.updates.0
