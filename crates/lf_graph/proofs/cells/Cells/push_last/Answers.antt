use Rattle.std.proofs.Common.{arith, subst, sym, ◌++◌, ◌∷◌, []}
use Rattle.lf_graph.specs.Cells.{IsFieldList, cells_of}
use Rattle.lf_graph.proofs.FieldTable.CellLists.{few_fields, pushed_list, pushed_value}
use Rattle.lf_graph.proofs.cells.Cells.push_last.Goals as goal

pub with_last-requires : goal.with_last-requires
with_last-requires c =
    let few = few_fields c.args.self.now.cells c.args.o c.args.ends c.requires.list.0 c.requires.list.1 in
    let room = c.requires.room in
    grind arith

pub returns-clause-lists : goal.returns-clause-lists
returns-clause-lists c keys old =
    subst (λ t. IsFieldList (cells_of c.put.new.self) c.args.o t (keys ++ c.args.key ∷ [])) (sym c.with_last.ensures)
    (pushed_list (cells_of c.args.self.now) (cells_of c.set_next.new.self) (cells_of c.put.new.self) c.args.o c.args.ends c.args.key c.args.value c.requires.new c.set_next.ensures.cells c.put.ensures.cells keys old)

pub returns-clause-value : goal.returns-clause-value
returns-clause-value c = pushed_value (cells_of c.args.self.now) (cells_of c.set_next.new.self) (cells_of c.put.new.self) c.args.o c.args.ends c.args.key c.args.value c.requires.new c.set_next.ensures.cells c.put.ensures.cells
