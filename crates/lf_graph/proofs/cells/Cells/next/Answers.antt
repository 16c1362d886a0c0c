use Rattle.std.proofs.Common.{sym}
use Rattle.lf_graph.specs.Cells.{cells_of}
use Rattle.lf_graph.proofs.FieldTable.CellLists.{next_key, no_next_key}
use Rattle.lf_graph.proofs.cells.Cells.next.Goals as goal

pub returns-in-Some : goal.returns-in-Some
returns-in-Some c ends keys old = next_key (cells_of c.args.self.now) c.args.o ends keys c.args.key c.in-Some.cell.now old (sym c.in-Some.ensures)

pub returns-in-None : goal.returns-in-None
returns-in-None c ends keys old = no_next_key (cells_of c.args.self.now) c.args.o ends keys c.args.key old (sym c.in-None.ensures)
