use Rattle.std.proofs.Common.{ap, sym, ◌∙◌}
use Rattle.lf_pool.proofs.Beheads.{node_other}
use Rattle.lf_pool.proofs.Joins.{chain_in_range}
use Rattle.lf_poolstore.specs.RowLists.{numbers}
use Rattle.lf_poolstore.specs.Units.{pair_by}
use Rattle.lf_pool.proofs.Places.{no_number}
use Rattle.lf_poolstore.proofs.CellFields.{after_in_range, first_with_member, past_found, past_none}
use Rattle.lf_poolstore.proofs.unit.field_walks.cell_past.Goals as goal

pub returns-then-cell-clause-field : goal.returns-then-cell-clause-field
returns-then-cell-clause-field c = past_none c.args.cells.now c.args.key (numbers c.args.cells.now c.args.first) (sym c.cell_of-cell.ensures ∙ no_number c.cell_of-cell.result c.if-cell.true)

pub behind-requires : goal.behind-requires
behind-requires c =
    let xs = numbers c.args.cells.now c.args.first in
    (xs, c.requires.chain, first_with_member c.args.cells.now c.args.key xs c.cell_of-cell.result (sym c.cell_of-cell.ensures ∙ node_other c.cell_of-cell.result c.if-cell.false))

pub returns-clause-field : goal.returns-clause-field
returns-clause-field c =
    let xs = numbers c.args.cells.now c.args.first in
    let found = sym c.cell_of-cell.ensures ∙ node_other c.cell_of-cell.result c.if-cell.false in
    ap (pair_by c.args.cells.now) (c.behind.ensures xs c.requires.chain (first_with_member c.args.cells.now c.args.key xs c.cell_of-cell.result found))
    ∙ past_found c.args.cells.now c.args.key c.cell_of-cell.result xs c.requires.chain.differ (λ q h. chain_in_range c.args.cells.now.cells xs q c.requires.chain h) found

pub returns-clause-there : goal.returns-clause-there
returns-clause-there c x e =
    let xs = numbers c.args.cells.now c.args.first in
    let found = sym c.cell_of-cell.ensures ∙ node_other c.cell_of-cell.result c.if-cell.false in
    after_in_range c.args.cells.now c.args.first xs c.cell_of-cell.result x c.requires (sym (c.behind.ensures xs c.requires.chain (first_with_member c.args.cells.now c.args.key xs c.cell_of-cell.result found)) ∙ e)
