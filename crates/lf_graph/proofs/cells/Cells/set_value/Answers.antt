use Rattle.std.proofs.Common.{refl, sym, ◌∙◌}
use Rattle.std.specs.Option.{option_map}
use Rattle.lf_graph.specs.Cells.{cells_of, with_value}
use Rattle.lf_graph.proofs.FieldTable.CellLists.{cell_not_none, only_others, valued_list, valued_value_at}
use Rattle.lf_graph.proofs.FieldTable.CellMaps.{cells_read, cells_written, names_agree}
use Rattle.lf_graph.proofs.cells.Cells.set_value.Goals as goal

pub returns-in-Some-clause-lists : goal.returns-in-Some-clause-lists
returns-in-Some-clause-lists c =
    valued_list (cells_of c.args.self.now) _ c.args.o c.args.key c.args.value c.requires.there
    (cells_written _ names_agree c.args.self.now.cells _ c.args.o c.args.key c.in-Some.cell.now _ (option_map (with_value c.args.value)) c.in-Some.ensures.value refl (c.get_mut.follows.holds _))

pub returns-in-Some-clause-value : goal.returns-in-Some-clause-value
returns-in-Some-clause-value c =
    valued_value_at (cells_of c.args.self.now) _ c.args.o c.args.key c.args.value c.requires.there
    (cells_written _ names_agree c.args.self.now.cells _ c.args.o c.args.key c.in-Some.cell.now _ (option_map (with_value c.args.value)) c.in-Some.ensures.value refl (c.get_mut.follows.holds _))

pub returns-in-Some-clause-others : goal.returns-in-Some-clause-others
returns-in-Some-clause-others c =
    only_others (cells_of c.args.self.now) _ c.args.o c.args.key (option_map (with_value c.args.value))
    (cells_written _ names_agree c.args.self.now.cells _ c.args.o c.args.key c.in-Some.cell.now _ (option_map (with_value c.args.value)) c.in-Some.ensures.value refl (c.get_mut.follows.holds _))

pub returns-in_default-clause-lists : goal.returns-in_default-clause-lists
returns-in_default-clause-lists c =
    absurd (cell_not_none (cells_of c.args.self.now c.args.o c.args.key) (sym (cells_read _ names_agree c.args.self.now.cells c.args.o c.args.key) ∙ sym c.in_default.ensures.value) c.requires.there)
