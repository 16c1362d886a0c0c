use Rattle.std.proofs.Common.{subst}
use Rattle.lf_pool.specs.Pools.{AreParts}
use Rattle.lf_pool.proofs.cell_pool.CellPool.cells.Goals as goal

pub returns-clause-parts : goal.returns-clause-parts
returns-clause-parts c = subst AreParts c.self.view_is c.cells.ensures.parts
