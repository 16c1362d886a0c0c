use Rattle.lf_pool.proofs.Beheads.{node_other}
use Rattle.lf_poolstore.specs.RowLists.{numbers}
use Rattle.lf_pool.proofs.Places.{no_number}
use Rattle.lf_poolstore.proofs.CellFields.{cells_there, none_found}
use Rattle.lf_poolstore.proofs.unit.fields.cell_of.Goals as goal

pub returns-then-first-eq-NONE : goal.returns-then-first-eq-NONE
returns-then-first-eq-NONE c = none_found c.args.cells.now c.args.key c.args.first (no_number c.args.first c.if-first-eq-NONE.true)

pub seek-requires : goal.seek-requires
seek-requires c = (numbers c.args.cells.now c.args.first, cells_there c.args.cells.now c.args.first (numbers c.args.cells.now c.args.first) c.requires (node_other c.args.first c.if-first-eq-NONE.false))

pub returns : goal.returns
returns c = c.seek.ensures (numbers c.args.cells.now c.args.first) (cells_there c.args.cells.now c.args.first (numbers c.args.cells.now c.args.first) c.requires (node_other c.args.first c.if-first-eq-NONE.false))
