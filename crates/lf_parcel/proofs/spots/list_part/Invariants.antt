use Rattle.std.proofs.Common.{length, ◌-◌}
use Rattle.lf_parcel.proofs.Orders.PartRows.{Listing}
use Rattle.lf_parcel.proofs.spots.list_part.Given as goal

abbrev pub invariant-loop-head : goal.invariant-loop-head
invariant-loop-head g l = Listing (g.S.Store.part_rows l.part) l.place l.fn.spots.items l.at l.spots.items

abbrev pub decreases-loop-head : goal.decreases-loop-head
decreases-loop-head g l = length (g.S.Store.part_rows l.part) - l.at
