use Rattle.std.proofs.Common.{subst, sym}
use Rattle.lf_pool.specs.Pools.{Chain, PoolView}
use Rattle.lf_pool.proofs.cell_pool.CellPool.push_last.Goals as goal

pub push_last-requires-clause-chain : goal.push_last-requires-clause-chain
push_last-requires-clause-chain c = (c.requires.chain.0, subst (λ (t : PoolView _). Chain t c.args.chain c.requires.chain.0) (sym c.self.view_is) c.requires.chain.1)

pub push_last-requires-clause-cell : goal.push_last-requires-clause-cell
push_last-requires-clause-cell c = (c.requires.cell.0, subst (λ (t : PoolView _). Chain t c.args.cell c.requires.cell.0) (sym c.self.view_is) c.requires.cell.1)

pub returns-clause-joined : goal.returns-clause-joined
returns-clause-joined c xs ys a b =
    c.push_last.ensures.joined xs ys (subst (λ (t : PoolView _). Chain t c.args.chain xs) (sym c.self.view_is) a) (subst (λ (t : PoolView _). Chain t c.args.cell ys) (sym c.self.view_is) b)

pub returns-clause-others : goal.returns-clause-others
returns-clause-others c d zs z n m = c.push_last.ensures.others d zs (subst (λ (t : PoolView _). Chain t d zs) (sym c.self.view_is) z) n m
