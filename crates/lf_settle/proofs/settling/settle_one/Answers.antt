use Rattle.std.proofs.Common.{ap, arith, subst}
use Rattle.lf_base.specs.Losses.{of_region, size}
use Rattle.lf_base.specs.Names.{same_name}
use Rattle.lf_base.specs.PlainState.{State}
use Rattle.lf_settle.specs.Verdicts.{Judges}
use Rattle.lf_settle.specs.WorkLists.{suspected_place}
use Rattle.lf_settle.proofs.Rounds.OneSuspect.{left_is, settles_drop, settles_idle, whole_can_go}
use Rattle.lf_settle.proofs.settling.settle_one.Goals as goal

pub judge-requires-clause-state : goal.judge-requires-clause-state
judge-requires-clause-state g c κs within = (c.requires.state.0, c.requires.state.1.counted)

pub drop_row-requires-clause-state : goal.drop_row-requires-clause-state
drop_row-requires-clause-state g c κs within =
    let s = c.requires.state.0 in
    let can = c.requires.state.1 in
    let j = subst (λ v. Judges s v (suspected_place c.args.suspect)) c.in-DropRow.is (c.judge.ensures.judged s can.counted) in
    (s, record { can = can; goes = j.0 })

pub drop_region-requires-clause-state : goal.drop_region-requires-clause-state
drop_region-requires-clause-state g c κs within =
    let s = c.requires.state.0 in
    let can = c.requires.state.1 in
    let j = subst (λ v. Judges s v (suspected_place c.args.suspect)) c.in-DropRegion.is (c.judge.ensures.judged s can.counted) in
    (s, record { can = can; goes = j.0 })

pub returns-in-Stays-clause-settles : goal.returns-in-Stays-clause-settles
returns-in-Stays-clause-settles g c s can =
    settles_idle s (g.S.Store.rows c.args.store.now) c.args.regions.now c.args.work.now can (suspected_place c.args.suspect) (subst (λ v. Judges s v (suspected_place c.args.suspect)) c.in-Stays.is (c.judge.ensures.judged s can.counted))

pub returns-in-Stays-clause-steps : goal.returns-in-Stays-clause-steps
returns-in-Stays-clause-steps g c s can = omega (arith, c.judge.ensures.steps, ap size ((can.counted.counts.store).rows).rise)

pub returns-in-DropRow-clause-settles : goal.returns-in-DropRow-clause-settles
returns-in-DropRow-clause-settles g c s can =
    let j = subst (λ v. Judges s v (suspected_place c.args.suspect)) c.in-DropRow.is (c.judge.ensures.judged s can.counted) in
    settles_drop s (g.S.Store.rows c.args.store.now) c.args.regions.now c.args.work.now can (suspected_place c.args.suspect) (same_name c.in-DropRow.o) c.drop_row.new.work (g.S.Store.rows c.drop_row.new.store) c.drop_row.new.regions j.0.goes j.1 (c.drop_row.ensures.drops s (record { can = can; goes = j.0 }))

pub returns-in-DropRow-clause-steps : goal.returns-in-DropRow-clause-steps
returns-in-DropRow-clause-steps g c s can =
    let j = subst (λ v. Judges s v (suspected_place c.args.suspect)) c.in-DropRow.is (c.judge.ensures.judged s can.counted) in
    let drops = c.drop_row.ensures.drops s (record { can = can; goes = j.0 }) in
    omega (arith, c.drop_row.ensures.steps s (record { can = can; goes = j.0 }), c.judge.ensures.steps, ap (λ (u : State). size u.rows) (left_is s (g.S.Store.rows c.args.store.now) c.args.regions.now c.args.work.now can (same_name c.in-DropRow.o) c.drop_row.new.work (g.S.Store.rows c.drop_row.new.store) c.drop_row.new.regions drops))

pub returns-in-DropRegion-clause-settles : goal.returns-in-DropRegion-clause-settles
returns-in-DropRegion-clause-settles g c s can =
    let j = subst (λ v. Judges s v (suspected_place c.args.suspect)) c.in-DropRegion.is (c.judge.ensures.judged s can.counted) in
    settles_drop s (g.S.Store.rows c.args.store.now) c.args.regions.now c.args.work.now can (suspected_place c.args.suspect) (of_region s c.in-DropRegion.r) c.drop_region.new.work (g.S.Store.rows c.drop_region.new.store) c.drop_region.new.regions (whole_can_go s (g.S.Store.rows c.args.store.now) c.args.regions.now c.args.work.now can c.in-DropRegion.r j.0) j.1 (c.drop_region.ensures.drops s (record { can = can; goes = j.0 }))

pub returns-in-DropRegion-clause-steps : goal.returns-in-DropRegion-clause-steps
returns-in-DropRegion-clause-steps g c s can =
    let j = subst (λ v. Judges s v (suspected_place c.args.suspect)) c.in-DropRegion.is (c.judge.ensures.judged s can.counted) in
    let drops = c.drop_region.ensures.drops s (record { can = can; goes = j.0 }) in
    omega (arith, c.drop_region.ensures.steps s (record { can = can; goes = j.0 }), c.judge.ensures.steps, ap (λ (u : State). size u.rows) (left_is s (g.S.Store.rows c.args.store.now) c.args.regions.now c.args.work.now can (of_region s c.in-DropRegion.r) c.drop_region.new.work (g.S.Store.rows c.drop_region.new.store) c.drop_region.new.regions drops))
