use Rattle.std.proofs.Common.{subst, ◌≤◌}
use Rattle.lf_heap.proofs.RegionWalks.ChildrenCounted.{open_by_others}
use Rattle.lf_heap.proofs.openness.is_open.Goals as goal

pub returns-else-borrowed-gt0-clause-open : goal.returns-else-borrowed-gt0-clause-open
returns-else-borrowed-gt0-clause-open g c s d b =
    open_by_others (g.S.Store.rows c.args.store.now) c.args.regions.now s d c.args.r c.is_open_below.result (subst (λ n. n ≤ 0) c.borrowed.ensures.number c.if-borrowed-gt0.false) (c.is_open_below.ensures.«open» s d b)
