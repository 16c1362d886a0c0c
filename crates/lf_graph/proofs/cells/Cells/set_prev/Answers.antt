use Rattle.lf_base.specs.Links.{to_prev}
use Rattle.lf_graph.proofs.FieldTable.CellMaps.{cells_relinked, names_agree}
use Rattle.lf_graph.proofs.cells.Cells.set_prev.Goals as goal

pub returns-in-Some-get_mut-clause-cells : goal.returns-in-Some-get_mut-clause-cells
returns-in-Some-get_mut-clause-cells c =
    cells_relinked _ names_agree c.args.self.now.cells _ c.args.o c.args.at c.in-Some.key c.in-Some-get_mut.cell.now (to_prev c.args.prev) c.in-Some.is c.in-Some-get_mut.ensures.value (c.get_mut.follows.holds _)
