use Rattle.lf_pool.proofs.Beheads.{node_other}
use Rattle.lf_poolstore.proofs.unit.field_walks.pair_of.Goals as goal

pub pair-requires : goal.pair-requires
pair-requires c = c.requires c.args.cell (node_other c.args.cell c.if-cell-eq-NONE.false)
