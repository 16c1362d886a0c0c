use Rattle.std.proofs.Common.{◌≡◌, ℕ, List, slice_get}
use Rattle.lf_pool.specs.Cells.{node}
use Rattle.lf_pool.specs.Pools.{IsLeft}
use Rattle.lf_pool.proofs.pool.Pool.cell_at.Given as goal

abbrev pub invariant-loop-step : goal.invariant-loop-step
invariant-loop-step g l = (xs : List ℕ) → IsLeft l.self (node l.first) xs → node l.cell ≡ slice_get xs l._step
