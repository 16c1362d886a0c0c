use Rattle.lf_parcel.specs.Parcels.{parts_seen}
use Rattle.lf_parcel.proofs.Orders.PartsInTurn.{ListedParts}
use Rattle.lf_parcel.proofs.spots.spots_by_name.Given as goal

-- the rows of the parts before this one are listed
abbrev pub invariant-loop-place : goal.invariant-loop-place
invariant-loop-place g l = ListedParts (parts_seen g.S.Store.part_region g.S.Store.part_rows l.parts) l.place l.spots.items
