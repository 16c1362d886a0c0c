use Rattle.std.proofs.Common.{ap, arith, length, refl}
use Rattle.lf_settle.specs.Drops.{stored_state}
use Rattle.lf_settle.specs.WorkLists.{suspected_place}
use Rattle.lf_settle.proofs.Rounds.AllSuspects.{can_next, counts_kept, going_init, going_on, steps_bounded}
use Rattle.lf_settle.proofs.settling.settle.Goals as goal

pub loop-suspect-init : goal.loop-suspect-init
loop-suspect-init g c = record {
  going = λ s can. going_init s (g.S.Store.rows c.args.store.now) c.args.regions.now c.args.work.now can c.args.steps.now;
  capacity = refl;
}

pub settle_one-requires-clause-state : goal.settle_one-requires-clause-state
settle_one-requires-clause-state g c κs within =
    let s = c.requires.state.0 in
    let can = c.requires.state.1 in
    (stored_state s (g.S.Store.rows c.loop-suspect.store), can_next s (g.S.Store.rows c.args.store.now) c.args.regions.now c.args.work.now can c.args.steps.now (g.S.Store.rows c.loop-suspect.store) c.loop-suspect.regions c.loop-suspect.work c.loop-suspect.steps (c.loop-suspect.invariant.going s can) (suspected_place c.in-Some.suspect) c.pop.new.self c.in-Some.ensures.suspects c.in-Some.ensures.room)

pub loop-suspect-smaller : goal.loop-suspect-smaller
loop-suspect-smaller g c =
    let s = c.requires.state.0 in
    let can = c.requires.state.1 in
    let next = can_next s (g.S.Store.rows c.args.store.now) c.args.regions.now c.args.work.now can c.args.steps.now (g.S.Store.rows c.loop-suspect.store) c.loop-suspect.regions c.loop-suspect.work c.loop-suspect.steps (c.loop-suspect.invariant.going s can) (suspected_place c.in-Some.suspect) c.pop.new.self c.in-Some.ensures.suspects c.in-Some.ensures.room in
    omega (arith, (c.settle_one.ensures.settles (stored_state s (g.S.Store.rows c.loop-suspect.store)) next).less, ap length c.in-Some.ensures.suspects)

pub loop-suspect-preserved : goal.loop-suspect-preserved
loop-suspect-preserved g c = record {
  going = λ s can.
      let next = can_next s (g.S.Store.rows c.args.store.now) c.args.regions.now c.args.work.now can c.args.steps.now (g.S.Store.rows c.loop-suspect.store) c.loop-suspect.regions c.loop-suspect.work c.loop-suspect.steps (c.loop-suspect.invariant.going s can) (suspected_place c.in-Some.suspect) c.pop.new.self c.in-Some.ensures.suspects c.in-Some.ensures.room in
      going_on s (g.S.Store.rows c.args.store.now) c.args.regions.now c.args.work.now can c.args.steps.now (g.S.Store.rows c.loop-suspect.store) c.loop-suspect.regions c.loop-suspect.work c.loop-suspect.steps (c.loop-suspect.invariant.going s can) (suspected_place c.in-Some.suspect) c.pop.new.self c.in-Some.ensures.suspects c.in-Some.ensures.room (g.S.Store.rows c.settle_one.new.store) c.settle_one.new.regions c.settle_one.new.work c.settle_one.new.steps
      (c.settle_one.ensures.settles (stored_state s (g.S.Store.rows c.loop-suspect.store)) next) (c.settle_one.ensures.steps (stored_state s (g.S.Store.rows c.loop-suspect.store)) next);
  capacity = omega (arith, c.settle_one.ensures.capacity, c.in-Some.ensures.room, ap length c.in-Some.ensures.suspects, c.loop-suspect.invariant.capacity);
}

pub returns-clause-kept : goal.returns-clause-kept
returns-clause-kept g c s can =
    let none = rw c.in_default.is at c.pop.ensures.suspects in
    counts_kept s (g.S.Store.rows c.args.store.now) c.args.regions.now c.args.work.now can c.args.steps.now (g.S.Store.rows c.loop-suspect.store) c.loop-suspect.regions c.loop-suspect.work c.loop-suspect.steps (c.loop-suspect.invariant.going s can) none.0

pub returns-clause-none_left : goal.returns-clause-none_left
returns-clause-none_left g c =
    let none = rw c.in_default.is at c.pop.ensures.suspects in
    none.1

pub returns-clause-room : goal.returns-clause-room
returns-clause-room g c =
    let none = rw c.in_default.is at c.pop.ensures.suspects in
    let room = rw c.in_default.is at c.pop.ensures.room in
    omega (arith, room, ap length none.0, c.loop-suspect.invariant.capacity)

pub returns-clause-steps : goal.returns-clause-steps
returns-clause-steps g c s can =
    let none = rw c.in_default.is at c.pop.ensures.suspects in
    steps_bounded s (g.S.Store.rows c.args.store.now) c.args.regions.now c.args.work.now can c.args.steps.now (g.S.Store.rows c.loop-suspect.store) c.loop-suspect.regions c.loop-suspect.work c.loop-suspect.steps (c.loop-suspect.invariant.going s can) none.0
