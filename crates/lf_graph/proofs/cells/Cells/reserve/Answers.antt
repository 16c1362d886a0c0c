use Rattle.lf_graph.proofs.FieldTable.CellMaps.{cells_kept, names_agree}
use Rattle.lf_graph.proofs.cells.Cells.reserve.Goals as goal

pub returns-in-Ok-clause-cells : goal.returns-in-Ok-clause-cells
returns-in-Ok-clause-cells c = cells_kept _ names_agree c.args.self.now.cells c.reserve.new.self c.reserve.ensures.entries.2
