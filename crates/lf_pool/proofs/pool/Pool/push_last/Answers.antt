use Rattle.std.proofs.Common.{subst, sym}
use Rattle.lf_pool.specs.Cells.{link_at}
use Rattle.lf_pool.specs.Pools.{Chain, PoolView}
use Rattle.lf_pool.proofs.Parts.{elsewhere, parted_push}
use Rattle.lf_pool.proofs.pool.Pool.push_last.Goals as goal

pub invariant_of-self : goal.invariant_of-self
invariant_of-self g c =
    let xs = c.requires.chain.0 in
    let ys = c.requires.cell.0 in
    let a = subst (λ (p : PoolView _). Chain p c.args.chain xs) (sym c.self.view_is) c.requires.chain.1 in
    let b = subst (λ (p : PoolView _). Chain p c.args.cell ys) (sym c.self.view_is) c.requires.cell.1 in
    parted_push c.self.inside.cells.items c.join.new.cells.items c.self.inside.free c.self.inside.free_cells c.args.chain c.args.cell xs ys c.self.invariant a.0 a.1 b.0 b.1
    (c.join.ensures.joined xs ys a.0 b.0) c.join.ensures.others c.join.ensures.size

pub returns-clause-others : goal.returns-clause-others
returns-clause-others g c d zs old n m =
    let xs = c.requires.chain.0 in
    let ys = c.requires.cell.0 in
    let a = subst (λ (p : PoolView _). Chain p c.args.chain xs) (sym c.self.view_is) c.requires.chain.1 in
    let b = subst (λ (p : PoolView _). Chain p c.args.cell ys) (sym c.self.view_is) c.requires.cell.1 in
    let z = subst (λ (p : PoolView _). Chain p d zs) (sym c.self.view_is) old in
    let get = link_at c.self.inside.cells.items in
    ((c.join.ensures.others zs z.0.0 (elsewhere get c.args.chain d xs zs a.0 z.0 n) (elsewhere get c.args.cell d ys zs b.0 z.0 m), z.0.1), z.1)
