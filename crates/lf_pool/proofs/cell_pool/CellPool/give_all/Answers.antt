use Rattle.std.proofs.Common.{subst, sym}
use Rattle.lf_pool.specs.Pools.{Chain, PoolView}
use Rattle.lf_pool.proofs.cell_pool.CellPool.give_all.Goals as goal

pub returns-clause-others : goal.returns-clause-others
returns-clause-others c d zs z n = c.give_all.ensures.others d zs (subst (λ (t : PoolView _). Chain t d zs) (sym c.self.view_is) z) n
