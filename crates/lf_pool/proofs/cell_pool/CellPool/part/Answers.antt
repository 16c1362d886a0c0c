use Rattle.std.proofs.Common.{subst, sym}
use Rattle.lf_pool.specs.Pools.{Chain, PoolView}
use Rattle.lf_pool.proofs.cell_pool.CellPool.part.Goals as goal

pub unlink-requires : goal.unlink-requires
unlink-requires c = record { there = (c.requires.there.0, subst (λ (t : PoolView _). Chain t c.args.chain c.requires.there.0) (sym c.self.view_is) c.requires.there.1, c.requires.there.2) }

pub returns-clause-rest : goal.returns-clause-rest
returns-clause-rest c xs a = c.unlink.ensures.rest xs (subst (λ (t : PoolView _). Chain t c.args.chain xs) (sym c.self.view_is) a)

pub returns-clause-others : goal.returns-clause-others
returns-clause-others c d zs z n = c.unlink.ensures.others d zs (subst (λ (t : PoolView _). Chain t d zs) (sym c.self.view_is) z) n
