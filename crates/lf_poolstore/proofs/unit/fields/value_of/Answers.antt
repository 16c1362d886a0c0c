use Rattle.std.proofs.Common.{ap, sym, ◌∙◌, option_map}
use Rattle.lf_base.specs.declared.values.Key.{Key}
use Rattle.lf_base.specs.declared.values.Value.{Value}
use Rattle.lf_pool.proofs.Beheads.{node_other}
use Rattle.lf_poolstore.specs.RowLists.{numbers}
use Rattle.lf_pool.proofs.Places.{no_number}
use Rattle.lf_poolstore.proofs.CellFields.{found_in_range, value_found, value_in}
use Rattle.lf_poolstore.proofs.unit.fields.value_of.Goals as goal

pub pair-requires : goal.pair-requires
pair-requires c =
    found_in_range c.args.cells.now c.args.key c.args.first (numbers c.args.cells.now c.args.first) c.cell_of-cell.result c.requires (sym c.cell_of-cell.ensures ∙ node_other c.cell_of-cell.result c.if-cell.false)

pub returns-then-cell : goal.returns-then-cell
returns-then-cell c =
    sym (value_found c.args.cells.now c.args.key (numbers c.args.cells.now c.args.first) ∙ ap (value_in c.args.cells.now) (sym c.cell_of-cell.ensures ∙ no_number c.cell_of-cell.result c.if-cell.true))

pub returns : goal.returns
returns c =
    sym (value_found c.args.cells.now c.args.key (numbers c.args.cells.now c.args.first) ∙ ap (value_in c.args.cells.now) (sym c.cell_of-cell.ensures ∙ node_other c.cell_of-cell.result c.if-cell.false)
    ∙ ap (option_map (λ (p : Key × Value). p.1)) c.pair.ensures)
