use Rattle.std.proofs.Common.{None, Some, subst, sym, ◌<◌, ◌≡◌, ◌∙◌}
use Rattle.std.specs.Prelude.{length}
use Rattle.lf_base.specs.Links.{last_or}
use Rattle.lf_pool.specs.Cells.{link_at}
use Rattle.lf_pool.specs.Pools.{PoolView}
use Rattle.lf_pool.proofs.Joins.{chain_in_range}
use Rattle.lf_pool.proofs.Parts.{after_is}
use Rattle.lf_pool.proofs.pool.Pool.next.Goals as goal

pub next-requires : goal.next-requires
next-requires g c = subst (λ (t : PoolView _). c.args.cell < length t.cells) (sym c.self.view_is) (chain_in_range c.args.self.now.cells c.requires.0 c.args.cell c.requires.1 c.requires.2)

pub returns : goal.returns
returns g c xs z h =
    let a = after_is (link_at c.args.self.now.cells) (last_or None xs) xs c.args.cell z.links h in
    sym (c.next.ensures a.0 (subst (λ (t : PoolView _). link_at t.cells c.args.cell ≡ Some a.0) (sym c.self.view_is) a.1)) ∙ a.2
