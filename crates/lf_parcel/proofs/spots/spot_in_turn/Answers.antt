use Rattle.std.proofs.Common.{arith, subst, ◌≡◌, ℕ}
use Rattle.lf_base.specs.Owners.{names}
use Rattle.lf_parcel.specs.Parcels.{parts_seen}
use Rattle.lf_parcel.proofs.Orders.LeastNames.{Passed}
use Rattle.lf_parcel.proofs.Orders.RowsInTurn.{found_in_turn, none_in_turn, turn_begins, turn_on}
use Rattle.lf_parcel.proofs.spots.spot_in_turn.Goals as goal

pub loop-turn-init : goal.loop-turn-init
loop-turn-init g c rows are = turn_begins (parts_seen g.S.Store.part_region g.S.Store.part_rows c.args.parts.now) rows are

pub returns-in_default : goal.returns-in_default
returns-in_default g c rows are =
    none_in_turn (parts_seen g.S.Store.part_region g.S.Store.part_rows c.args.parts.now) rows are c.loop-turn._turn c.args.at c.loop-turn.after c.least_above.result (c.loop-turn.invariant rows are) c.least_above.ensures
    c.in_default.is (omega (arith, c.loop-turn-test.true))

pub loop-turn-preserved : goal.loop-turn-preserved
loop-turn-preserved g c rows are =
    turn_on (parts_seen g.S.Store.part_region g.S.Store.part_rows c.args.parts.now) rows are c.loop-turn._turn c.loop-turn.after c.least_above.result c.in-Some.spot (c.loop-turn.invariant rows are) c.least_above.ensures c.in-Some.is

pub returns : goal.returns
returns g c rows are =
    let all : c.loop-turn._turn ≡ c.args.at = omega (arith, c.loop-turn-test.false, c.loop-turn.auto._turn-end) in
    found_in_turn (parts_seen g.S.Store.part_region g.S.Store.part_rows c.args.parts.now) rows are c.args.at c.loop-turn.after c.least_above-2.result
    (subst (λ (n : ℕ). Passed (names rows) n c.loop-turn.after) all (c.loop-turn.invariant rows are)) c.least_above-2.ensures
