use Rattle.std.proofs.Common.{take}
use Rattle.lf_parcel.specs.Parcels.{parts_seen, rows_of_parts}
use Rattle.lf_parcel.specs.Spots.{LeastOfParts}
use Rattle.lf_parcel.proofs.spots.least_above.Given as goal

-- of the parts before this one
abbrev pub invariant-loop-place : goal.invariant-loop-place
invariant-loop-place g l =
    let seen = parts_seen g.S.Store.part_region g.S.Store.part_rows l.parts in
    LeastOfParts seen (rows_of_parts (take l.place seen)) l.after l.least
