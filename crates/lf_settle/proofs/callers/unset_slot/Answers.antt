use Rattle.std.proofs.Common.{None, ap, arith, length, refl}
use Rattle.lf_base.specs.Edges.{Slot}
use Rattle.lf_base.specs.PlainChanges.{with_slot_at}
use Rattle.lf_settle.proofs.Rounds.SlotUnset.{can_lose_slot, unset_can_settle}
use Rattle.lf_settle.proofs.callers.unset_slot.Goals as goal

pub lose_borrow-requires-clause-may : goal.lose_borrow-requires-clause-may
lose_borrow-requires-clause-may g c κs within =
    let w = c.requires.may in
    (w.0, (with_slot_at w.0 w.1.0 None, (Slot, ((can_lose_slot (g.S.Store.rows c.args.store.now) c.args.regions.now c.args.work.now w.0 w.1.0 c.args.v w.1.1), refl))))

pub settle-requires-clause-state : goal.settle-requires-clause-state
settle-requires-clause-state g c κs within =
    let w = c.requires.may in (
      with_slot_at w.0 w.1.0 None,
      unset_can_settle (g.S.Store.rows c.args.store.now) c.args.regions.now c.args.work.now w.0 w.1.0 c.args.v w.1.1 (g.S.Store.rows c.lose_borrow.new.store) c.lose_borrow.new.regions c.lose_borrow.new.work
          (c.lose_borrow.ensures.counted w.0 (with_slot_at w.0 w.1.0 None) Slot (can_lose_slot (g.S.Store.rows c.args.store.now) c.args.regions.now c.args.work.now w.0 w.1.0 c.args.v w.1.1) refl) (c.lose_borrow.ensures.noticed w.0 (with_slot_at w.0 w.1.0 None) Slot (can_lose_slot (g.S.Store.rows c.args.store.now) c.args.regions.now c.args.work.now w.0 w.1.0 c.args.v w.1.1) refl) c.lose_borrow.ensures.capacity,
    )

pub returns-clause-unset : goal.returns-clause-unset
returns-clause-unset g c s n may =
    c.settle.ensures.kept (with_slot_at s n None) (unset_can_settle (g.S.Store.rows c.args.store.now) c.args.regions.now c.args.work.now s n c.args.v may (g.S.Store.rows c.lose_borrow.new.store) c.lose_borrow.new.regions c.lose_borrow.new.work
    (c.lose_borrow.ensures.counted s (with_slot_at s n None) Slot (can_lose_slot (g.S.Store.rows c.args.store.now) c.args.regions.now c.args.work.now s n c.args.v may) refl) (c.lose_borrow.ensures.noticed s (with_slot_at s n None) Slot (can_lose_slot (g.S.Store.rows c.args.store.now) c.args.regions.now c.args.work.now s n c.args.v may) refl) c.lose_borrow.ensures.capacity)

pub returns-clause-steps : goal.returns-clause-steps
returns-clause-steps g c s n may =
    omega (
      arith,
      c.lose_borrow.ensures.steps,
      c.lose_borrow.ensures.one,
      ap length may.none_yet,
      c.settle.ensures.steps (with_slot_at s n None) (unset_can_settle (g.S.Store.rows c.args.store.now) c.args.regions.now c.args.work.now s n c.args.v may (g.S.Store.rows c.lose_borrow.new.store) c.lose_borrow.new.regions c.lose_borrow.new.work
          (c.lose_borrow.ensures.counted s (with_slot_at s n None) Slot (can_lose_slot (g.S.Store.rows c.args.store.now) c.args.regions.now c.args.work.now s n c.args.v may) refl) (c.lose_borrow.ensures.noticed s (with_slot_at s n None) Slot (can_lose_slot (g.S.Store.rows c.args.store.now) c.args.regions.now c.args.work.now s n c.args.v may) refl) c.lose_borrow.ensures.capacity),
    )
