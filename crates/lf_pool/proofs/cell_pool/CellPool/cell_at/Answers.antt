use Rattle.std.proofs.Common.{List, slice_get, subst, ℕ, ◌≡◌}
use Rattle.lf_pool.specs.Cells.{node}
use Rattle.lf_pool.specs.Pools.{IsLeft, PoolView}
use Rattle.lf_pool.proofs.cell_pool.CellPool.cell_at.Goals as goal

pub returns : goal.returns
returns c = subst (λ (t : PoolView _). (xs : List ℕ) → IsLeft t (node c.args.first) xs → node c.cell_at.result ≡ slice_get xs c.args.place) c.self.view_is c.cell_at.ensures
