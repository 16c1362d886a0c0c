use Rattle.std.proofs.Common.{length, ◌-◌}
use Rattle.indexmap.specs.IndexSet.{spare}
use Rattle.lf_transfer.proofs.RegionsBelow.BelowRegions.{Descending}
use Rattle.lf_transfer.proofs.below.find_below.Given as goal

abbrev pub invariant-loop-at : goal.invariant-loop-at
invariant-loop-at g l = Descending (g.S.Store.rows l.store) l.fn.r (spare l.fn.below) l.at l.below

abbrev pub decreases-loop-at : goal.decreases-loop-at
decreases-loop-at g l = length (g.S.Store.rows l.store) - l.at
