use Rattle.std.proofs.Common.{subst}
use Rattle.lf_pool.specs.Pools.{AreParts}
use Rattle.lf_pool.proofs.Unlinks.{parts_of}
use Rattle.lf_pool.proofs.pool.Pool.cells.Goals as goal

pub returns-clause-parts : goal.returns-clause-parts
returns-clause-parts g c = subst AreParts c.self.view_is (parts_of c.self.inside.cells.items c.self.inside.free c.self.inside.free_cells _ c.self.invariant)
