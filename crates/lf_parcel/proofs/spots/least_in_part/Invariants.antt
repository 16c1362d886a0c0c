use Rattle.std.proofs.Common.{length, ◌-◌}
use Rattle.lf_parcel.proofs.Orders.PartRows.{Seeking}
use Rattle.lf_parcel.proofs.spots.least_in_part.Given as goal

abbrev pub invariant-loop-head : goal.invariant-loop-head
invariant-loop-head g l = Seeking (g.S.Store.part_rows l.part) l.place l.after l.at l.least

abbrev pub decreases-loop-head : goal.decreases-loop-head
decreases-loop-head g l = length (g.S.Store.part_rows l.part) - l.at
