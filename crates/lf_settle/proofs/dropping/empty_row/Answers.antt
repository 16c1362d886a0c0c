use Rattle.std.proofs.Common.{arith, refl, sym, ◌∙◌}
use Rattle.lf_settle.specs.Drops.{stored_state}
use Rattle.lf_settle.proofs.RowsDropped.EmptiedRow.{can_still, empty_cost, empty_counted, empty_init, empty_less, empty_loses, empty_more, row_still, size_falls}
use Rattle.lf_settle.proofs.dropping.empty_row.Goals as goal

pub loop-key-init : goal.loop-key-init
loop-key-init g c = record {
  going = λ s can. empty_init s (g.S.Store.rows c.args.store.now) c.args.regions.now c.args.work.now c.args.o c.args.owner can c.args.steps.now;
  order = λ w. refl;
  capacity = refl;
}

pub field_after-requires : goal.field_after-requires
field_after-requires g c =
    let s = c.requires.state.0 in
    let can = c.requires.state.1 in
    record { there = row_still s (g.S.Store.rows c.args.store.now) c.args.regions.now c.args.work.now c.args.o c.args.owner can c.args.steps.now (g.S.Store.rows c.loop-key.store) c.loop-key.regions c.loop-key.work c.loop-key.steps (c.loop-key.invariant.going s can) }

pub drop_field-requires-clause-state : goal.drop_field-requires-clause-state
drop_field-requires-clause-state g c κs within =
    let s = c.requires.state.0 in
    let can = c.requires.state.1 in
    (stored_state s (g.S.Store.rows c.loop-key.store), can_still s (g.S.Store.rows c.args.store.now) c.args.regions.now c.args.work.now c.args.o c.args.owner can c.args.steps.now (g.S.Store.rows c.loop-key.store) c.loop-key.regions c.loop-key.work c.loop-key.steps (c.loop-key.invariant.going s can) c.loop-key.invariant.capacity)

pub loop-key-smaller : goal.loop-key-smaller
loop-key-smaller g c =
    let s = c.requires.state.0 in
    let can = c.requires.state.1 in
    let rows = g.S.Store.rows c.loop-key.store in
    let still = can_still s (g.S.Store.rows c.args.store.now) c.args.regions.now c.args.work.now c.args.o c.args.owner can c.args.steps.now (g.S.Store.rows c.loop-key.store) c.loop-key.regions c.loop-key.work c.loop-key.steps (c.loop-key.invariant.going s can) c.loop-key.invariant.capacity in
    let falls = size_falls s (g.S.Store.rows c.args.store.now) c.args.regions.now c.args.work.now c.args.o c.args.owner can c.args.steps.now (g.S.Store.rows c.loop-key.store) c.loop-key.regions c.loop-key.work c.loop-key.steps (c.loop-key.invariant.going s can) c.in-Some.key c.in-Some.field-0-1 c.in-Some.ensures.field (g.S.Store.rows c.drop_field.new.store) c.drop_field.new.regions c.drop_field.new.work c.drop_field.new.steps (c.drop_field.ensures.counted (stored_state s rows) still) in
    omega (arith, falls)

pub loop-key-preserved : goal.loop-key-preserved
loop-key-preserved g c = record {
  going = λ s can.
      let rows = g.S.Store.rows c.loop-key.store in
      let still = can_still s (g.S.Store.rows c.args.store.now) c.args.regions.now c.args.work.now c.args.o c.args.owner can c.args.steps.now (g.S.Store.rows c.loop-key.store) c.loop-key.regions c.loop-key.work c.loop-key.steps (c.loop-key.invariant.going s can) c.loop-key.invariant.capacity in
      empty_more s (g.S.Store.rows c.args.store.now) c.args.regions.now c.args.work.now c.args.o c.args.owner can c.args.steps.now (g.S.Store.rows c.loop-key.store) c.loop-key.regions c.loop-key.work c.loop-key.steps (c.loop-key.invariant.going s can) c.in-Some.key c.in-Some.field-0-1 c.in-Some.ensures.field (g.S.Store.rows c.drop_field.new.store) c.drop_field.new.regions c.drop_field.new.work c.drop_field.new.steps (c.drop_field.ensures.counted (stored_state s rows) still) (c.drop_field.ensures.loses (stored_state s rows) still) c.drop_field.ensures.one
      (omega (arith, c.drop_field.ensures.steps, c.field_after.ensures.step));
  order = λ w. c.drop_field.ensures.order w ∙ c.loop-key.invariant.order w;
  capacity = c.drop_field.ensures.capacity ∙ c.loop-key.invariant.capacity;
}

pub returns-clause-counted : goal.returns-clause-counted
returns-clause-counted g c s can = empty_counted s (g.S.Store.rows c.args.store.now) c.args.regions.now c.args.work.now c.args.o c.args.owner can c.args.steps.now (g.S.Store.rows c.loop-key.store) c.loop-key.regions c.loop-key.work c.loop-key.steps (c.loop-key.invariant.going s can) (sym c.in_default.is ∙ c.field_after.ensures.field)

pub returns-clause-loses : goal.returns-clause-loses
returns-clause-loses g c s can = empty_loses s (g.S.Store.rows c.args.store.now) c.args.regions.now c.args.work.now c.args.o c.args.owner can c.args.steps.now (g.S.Store.rows c.loop-key.store) c.loop-key.regions c.loop-key.work c.loop-key.steps (c.loop-key.invariant.going s can) (sym c.in_default.is ∙ c.field_after.ensures.field)

pub returns-clause-less : goal.returns-clause-less
returns-clause-less g c s can = empty_less s (g.S.Store.rows c.args.store.now) c.args.regions.now c.args.work.now c.args.o c.args.owner can c.args.steps.now (g.S.Store.rows c.loop-key.store) c.loop-key.regions c.loop-key.work c.loop-key.steps (c.loop-key.invariant.going s can) (sym c.in_default.is ∙ c.field_after.ensures.field)

pub returns-clause-steps : goal.returns-clause-steps
returns-clause-steps g c s can = empty_cost s (g.S.Store.rows c.args.store.now) c.args.regions.now c.args.work.now c.args.o c.args.owner can c.args.steps.now (g.S.Store.rows c.loop-key.store) c.loop-key.regions c.loop-key.work c.loop-key.steps (c.loop-key.invariant.going s can) (sym c.in_default.is ∙ c.field_after.ensures.field) c.field_after.new.steps c.field_after.ensures.step

pub returns-clause-order : goal.returns-clause-order
returns-clause-order g c = c.loop-key.invariant.order
