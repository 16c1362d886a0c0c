use Rattle.lf_pool.proofs.Beheads.{node_other}
use Rattle.lf_pool.proofs.links.set_first.Goals as goal

pub set_prev-requires : goal.set_prev-requires
set_prev-requires g c = c.requires.there c.args.at (node_other c.args.at c.if-at-ne-NONE.true)
