use Rattle.std.proofs.Common.{subst, sym}
use Rattle.lf_pool.specs.Pools.{Chain, PoolView}
use Rattle.lf_pool.proofs.cell_pool.CellPool.set.Goals as goal

pub returns-clause-chains : goal.returns-clause-chains
returns-clause-chains c d zs z = c.set.ensures.chains d zs (subst (λ (t : PoolView _). Chain t d zs) (sym c.self.view_is) z)
