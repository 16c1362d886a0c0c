use Rattle.std.proofs.Common.{None}
use Rattle.lf_graph.proofs.FieldTable.CellMaps.{cells_updated, names_agree}
use Rattle.lf_graph.proofs.cells.Cells.remove.Goals as goal

pub returns-clause-cells : goal.returns-clause-cells
returns-clause-cells c = cells_updated _ names_agree c.args.self.now.cells c.remove.new.self c.args.o c.args.key None c.remove.ensures.updates.0
