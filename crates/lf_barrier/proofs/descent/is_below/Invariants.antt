use Rattle.lf_barrier.proofs.Descents.OwnedBelow.{Descending}
use Rattle.lf_barrier.proofs.descent.is_below.Given as goal

abbrev pub invariant-loop-at : goal.invariant-loop-at
invariant-loop-at g l = Descending (g.S.Store.rows l.store) l.regions l.home l.fn.bridges.keys l.at l.visited.keys
