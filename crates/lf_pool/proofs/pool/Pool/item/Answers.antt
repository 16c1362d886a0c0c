use Rattle.std.proofs.Common.{arith, length, subst, sym, ◌<◌}
use Rattle.lf_pool.specs.Pools.{PoolView}
use Rattle.lf_pool.proofs.Joins.{node_is}
use Rattle.lf_pool.proofs.pool.Pool.item.Goals as goal

pub returns-clause-number : goal.returns-clause-number
returns-clause-number g c =
    let there = subst (λ (t : PoolView _). c.args.cell < length t.cells) (sym c.self.view_is) c.requires in
    let few = c.self.invariant.few in
    node_is c.args.cell (omega (arith, there, few))
