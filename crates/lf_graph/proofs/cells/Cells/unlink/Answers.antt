use Rattle.std.proofs.Common.{subst, sym}
use Rattle.lf_base.specs.Links.{without}
use Rattle.lf_base.specs.Names.{same_key}
use Rattle.lf_graph.specs.Cells.{IsFieldList, cells_of}
use Rattle.lf_graph.proofs.FieldTable.CellLists.{unlinked_list, unlinked_value}
use Rattle.lf_graph.proofs.cells.Cells.unlink.Goals as goal

pub returns-clause-lists : goal.returns-clause-lists
returns-clause-lists c keys old =
    subst (λ t. IsFieldList (cells_of c.set_prev.new.self) c.args.o t (without same_key c.args.key keys)) (sym c.without.ensures)
    (unlinked_list (cells_of c.args.self.now) (cells_of c.remove.new.self) (cells_of c.set_next.new.self) (cells_of c.set_prev.new.self) c.args.o c.args.ends c.args.key c.in-Some.cell (sym c.in-Some.ensures.cell)
    c.remove.ensures.cells c.set_next.ensures.cells c.set_prev.ensures.cells keys old)

pub returns-clause-value : goal.returns-clause-value
returns-clause-value c =
    unlinked_value (cells_of c.args.self.now) (cells_of c.remove.new.self) (cells_of c.set_next.new.self) (cells_of c.set_prev.new.self) c.args.o c.args.ends c.args.key c.in-Some.cell (sym c.in-Some.ensures.cell)
    c.remove.ensures.cells c.set_next.ensures.cells c.set_prev.ensures.cells
