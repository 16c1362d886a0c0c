use Rattle.lf_barrier.proofs.Descents.OwnedRegions.{RegionLooked}
use Rattle.lf_barrier.proofs.descent.look_into_region.Given as goal

abbrev pub invariant-loop-turn : goal.invariant-loop-turn
invariant-loop-turn g l = RegionLooked (g.S.Store.rows l.store) l.r l.home l.next l.fn.visited.keys l.visited.keys
