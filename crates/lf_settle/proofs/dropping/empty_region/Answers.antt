use Rattle.std.proofs.Common.{refl, ◌∙◌}
use Rattle.lf_settle.specs.Drops.{stored_state}
use Rattle.lf_settle.proofs.RowsDropped.EmptiedRegion.{still_there, sweep_can, sweep_cost, sweep_counted, sweep_ends, sweep_init, sweep_less, sweep_loses, sweep_on}
use Rattle.lf_settle.proofs.dropping.empty_region.Goals as goal

pub loop-next-init : goal.loop-next-init
loop-next-init g c = record {
  sweep = λ s can. sweep_init s c.args.r (g.S.Store.rows c.args.store.now) c.args.regions.now c.args.work.now can c.args.steps.now c.first-next.result c.first-next.new.steps c.first-next.ensures.first c.first-next.ensures.step;
  capacity = refl;
}

pub empty_row-requires-clause-state : goal.empty_row-requires-clause-state
empty_row-requires-clause-state g c κs within =
    let s = c.requires.state.0 in
    let can = c.requires.state.1 in
    (stored_state s (g.S.Store.rows c.loop-next.store), sweep_can s c.args.r (g.S.Store.rows c.args.store.now) c.args.regions.now c.args.work.now can c.args.steps.now c.loop-next.next (g.S.Store.rows c.loop-next.store) c.loop-next.regions c.loop-next.work c.loop-next.steps (c.loop-next.invariant.sweep s can) c.in-Some.o c.in-Some.is c.loop-next.invariant.capacity)

pub next-next-requires : goal.next-next-requires
next-next-requires g c =
    let s = c.requires.state.0 in
    let can = c.requires.state.1 in
    let row = sweep_can s c.args.r (g.S.Store.rows c.args.store.now) c.args.regions.now c.args.work.now can c.args.steps.now c.loop-next.next (g.S.Store.rows c.loop-next.store) c.loop-next.regions c.loop-next.work c.loop-next.steps (c.loop-next.invariant.sweep s can) c.in-Some.o c.in-Some.is c.loop-next.invariant.capacity in
    record { there = still_there s c.args.r (g.S.Store.rows c.args.store.now) c.args.regions.now c.args.work.now can c.args.steps.now c.loop-next.next (g.S.Store.rows c.loop-next.store) c.loop-next.regions c.loop-next.work c.loop-next.steps (c.loop-next.invariant.sweep s can) c.in-Some.o c.in-Some.is (g.S.Store.rows c.empty_row.new.store) c.empty_row.new.regions c.empty_row.new.work c.empty_row.new.steps (c.empty_row.ensures.counted (stored_state s (g.S.Store.rows c.loop-next.store)) row) c.empty_row.ensures.order }

pub loop-next-smaller : goal.loop-next-smaller
loop-next-smaller g c =
    let s = c.requires.state.0 in
    let can = c.requires.state.1 in
    let row = sweep_can s c.args.r (g.S.Store.rows c.args.store.now) c.args.regions.now c.args.work.now can c.args.steps.now c.loop-next.next (g.S.Store.rows c.loop-next.store) c.loop-next.regions c.loop-next.work c.loop-next.steps (c.loop-next.invariant.sweep s can) c.in-Some.o c.in-Some.is c.loop-next.invariant.capacity in
    sweep_less s c.args.r (g.S.Store.rows c.args.store.now) c.args.regions.now c.args.work.now can c.args.steps.now c.loop-next.next (g.S.Store.rows c.loop-next.store) c.loop-next.regions c.loop-next.work c.loop-next.steps (c.loop-next.invariant.sweep s can) c.in-Some.o c.in-Some.is (g.S.Store.rows c.empty_row.new.store) c.empty_row.new.regions c.empty_row.new.work c.empty_row.new.steps (c.empty_row.ensures.counted (stored_state s (g.S.Store.rows c.loop-next.store)) row) c.empty_row.ensures.order c.next-next.result c.next-next.ensures.next

pub loop-next-preserved : goal.loop-next-preserved
loop-next-preserved g c = record {
  sweep = λ s can.
      let row = sweep_can s c.args.r (g.S.Store.rows c.args.store.now) c.args.regions.now c.args.work.now can c.args.steps.now c.loop-next.next (g.S.Store.rows c.loop-next.store) c.loop-next.regions c.loop-next.work c.loop-next.steps (c.loop-next.invariant.sweep s can) c.in-Some.o c.in-Some.is c.loop-next.invariant.capacity in
      sweep_on s c.args.r (g.S.Store.rows c.args.store.now) c.args.regions.now c.args.work.now can c.args.steps.now c.loop-next.next (g.S.Store.rows c.loop-next.store) c.loop-next.regions c.loop-next.work c.loop-next.steps (c.loop-next.invariant.sweep s can) c.in-Some.o c.in-Some.is (g.S.Store.rows c.empty_row.new.store) c.empty_row.new.regions c.empty_row.new.work c.empty_row.new.steps (c.empty_row.ensures.counted (stored_state s (g.S.Store.rows c.loop-next.store)) row) c.empty_row.ensures.order (c.empty_row.ensures.loses (stored_state s (g.S.Store.rows c.loop-next.store)) row) (c.empty_row.ensures.less (stored_state s (g.S.Store.rows c.loop-next.store)) row) (c.empty_row.ensures.steps (stored_state s (g.S.Store.rows c.loop-next.store)) row)
      c.next-next.result c.next-next.new.steps c.next-next.ensures.next c.next-next.ensures.step;
  capacity = c.empty_row.ensures.capacity ∙ c.loop-next.invariant.capacity;
}

pub returns-clause-counted : goal.returns-clause-counted
returns-clause-counted g c s can = sweep_counted s c.args.r (g.S.Store.rows c.args.store.now) c.args.regions.now c.args.work.now can c.args.steps.now c.loop-next.next (g.S.Store.rows c.loop-next.store) c.loop-next.regions c.loop-next.work c.loop-next.steps (c.loop-next.invariant.sweep s can) c.in_default.is

pub returns-clause-loses : goal.returns-clause-loses
returns-clause-loses g c s can = sweep_loses s c.args.r (g.S.Store.rows c.args.store.now) c.args.regions.now c.args.work.now can c.args.steps.now c.loop-next.next (g.S.Store.rows c.loop-next.store) c.loop-next.regions c.loop-next.work c.loop-next.steps (c.loop-next.invariant.sweep s can) c.in_default.is

pub returns-clause-less : goal.returns-clause-less
returns-clause-less g c s can = sweep_ends s c.args.r (g.S.Store.rows c.args.store.now) c.args.regions.now c.args.work.now can c.args.steps.now c.loop-next.next (g.S.Store.rows c.loop-next.store) c.loop-next.regions c.loop-next.work c.loop-next.steps (c.loop-next.invariant.sweep s can) c.in_default.is

pub returns-clause-steps : goal.returns-clause-steps
returns-clause-steps g c s can = sweep_cost s c.args.r (g.S.Store.rows c.args.store.now) c.args.regions.now c.args.work.now can c.args.steps.now c.loop-next.next (g.S.Store.rows c.loop-next.store) c.loop-next.regions c.loop-next.work c.loop-next.steps (c.loop-next.invariant.sweep s can) c.in_default.is
