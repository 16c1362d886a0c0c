use Rattle.std.proofs.Common.{arith, subst, sym}
use Rattle.lf_pool.specs.Pools.{Chain, PoolView}
use Rattle.lf_pool.proofs.Parts.{given_fits, given_others, given_parted}
use Rattle.lf_pool.proofs.pool.Pool.give_all.Goals as goal

pub overflow_add-self : goal.overflow_add-self
overflow_add-self g c =
    let p = c.self.invariant in
    let xs = c.requires.chain.0 in
    let a = subst (λ (t : PoolView _). Chain t c.args.chain xs) (sym c.self.view_is) c.requires.chain.1 in
    let b = c.put_before in
    let low = given_fits c.self.inside.cells.items b.new.cells.items c.self.inside.free c.self.inside.free_cells c.args.chain c.args.width xs p a.0 a.1 c.requires.chain.2 (b.ensures.joined xs p.spare.0 a.0 p.spare.1 p.spare.2) b.ensures.others b.ensures.size in
    omega (arith, low)

pub invariant_of-self : goal.invariant_of-self
invariant_of-self g c =
    let p = c.self.invariant in
    let xs = c.requires.chain.0 in
    let a = subst (λ (t : PoolView _). Chain t c.args.chain xs) (sym c.self.view_is) c.requires.chain.1 in
    let b = c.put_before in
    given_parted c.self.inside.cells.items b.new.cells.items c.self.inside.free c.self.inside.free_cells c.args.chain c.args.width xs p a.0 a.1 c.requires.chain.2 (b.ensures.joined xs p.spare.0 a.0 p.spare.1 p.spare.2) b.ensures.others b.ensures.size

pub returns-clause-others : goal.returns-clause-others
returns-clause-others g c d zs old m =
    let p = c.self.invariant in
    let xs = c.requires.chain.0 in
    let a = subst (λ (t : PoolView _). Chain t c.args.chain xs) (sym c.self.view_is) c.requires.chain.1 in
    let z = subst (λ (t : PoolView _). Chain t d zs) (sym c.self.view_is) old in
    let b = c.put_before in
    given_others c.self.inside.cells.items b.new.cells.items c.self.inside.free c.self.inside.free_cells c.args.chain c.args.width xs p a.0 a.1 c.requires.chain.2 (b.ensures.joined xs p.spare.0 a.0 p.spare.1 p.spare.2) b.ensures.others b.ensures.size d zs z.0 z.1 m
