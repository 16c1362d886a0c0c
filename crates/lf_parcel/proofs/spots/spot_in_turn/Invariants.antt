use Rattle.lf_base.specs.Owners.{names}
use Rattle.lf_base.specs.PlainState.{Row}
use Rattle.lf_graph.specs.StoredRows.{AreRowsOf}
use Rattle.lf_parcel.specs.Parcels.{parts_seen, rows_of_parts}
use Rattle.lf_parcel.proofs.Orders.LeastNames.{Passed}
use Rattle.lf_parcel.proofs.spots.spot_in_turn.Given as goal
use Rattle.std.proofs.Common.{List}

-- so many names are passed
abbrev pub invariant-loop-turn : goal.invariant-loop-turn
invariant-loop-turn g l =
    (rows : List Row) → AreRowsOf (rows_of_parts (parts_seen g.S.Store.part_region g.S.Store.part_rows l.parts)) rows → Passed (names rows) l._turn l.after
