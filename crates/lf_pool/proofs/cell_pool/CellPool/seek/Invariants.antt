use Rattle.std.proofs.Common.{ℕ, List}
use Rattle.lf_pool.specs.Pools.{Chain}
use Rattle.lf_pool.proofs.Finds.{From, cells_left}
use Rattle.lf_pool.proofs.cell_pool.CellPool.seek.Given as goal

abbrev pub invariant-loop-self : goal.invariant-loop-self
invariant-loop-self l = (xs : List ℕ) → Chain l.self l.chain xs → From l.self.cells l.key xs l.at

abbrev pub decreases-loop-self : goal.decreases-loop-self
decreases-loop-self l = cells_left l.self.cells l.at
