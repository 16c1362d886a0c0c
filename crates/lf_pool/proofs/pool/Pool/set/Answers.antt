use Rattle.std.proofs.Common.{subst, sym}
use Rattle.lf_pool.specs.Cells.{link_at}
use Rattle.lf_pool.specs.Pools.{Chain, PoolView}
use Rattle.lf_pool.proofs.Chains.{chain_agrees}
use Rattle.lf_pool.proofs.Parts.{same_parted}
use Rattle.lf_pool.proofs.pool.Pool.set.Goals as goal

pub invariant_of-self : goal.invariant_of-self
invariant_of-self g c = same_parted c.self.inside.cells.items c.set_item.new.cells.items c.self.inside.free c.self.inside.free_cells c.set_item.ensures.links c.set_item.ensures.size c.self.invariant

pub returns-clause-chains : goal.returns-clause-chains
returns-clause-chains g c d xs old =
    let z = subst (λ (t : PoolView _). Chain t d xs) (sym c.self.view_is) old in
    ((chain_agrees (link_at c.self.inside.cells.items) (link_at c.set_item.new.cells.items) xs c.set_item.ensures.links z.0.0, z.0.1), z.1)
