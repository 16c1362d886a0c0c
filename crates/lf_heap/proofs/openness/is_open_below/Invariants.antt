use Rattle.std.proofs.Common.{length, ◌+◌, ◌-◌}
use Rattle.lf_heap.proofs.RegionWalks.WalksDown.{Walking}
use Rattle.lf_heap.proofs.openness.is_open_below.Given as goal

abbrev pub invariant-loop-at : goal.invariant-loop-at
invariant-loop-at g l = Walking (g.S.Store.rows l.store) l.regions l.fn.r l.fn.found l.at l.found

abbrev pub decreases-loop-at : goal.decreases-loop-at
decreases-loop-at g l = l.found.spare + length l.found.suspects - l.at
