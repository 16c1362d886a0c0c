use Rattle.std.proofs.Common.{ap, ◌+◌, ◌∙◌}
use Rattle.lf_base.specs.declared.values.Owner.TheVariants.{In}
use Rattle.std.specs.List.{sum_by}
use Rattle.lf_graph.specs.Room.{room_for_row}
use Rattle.lf_barrier.proofs.FieldWrites.PlanRoom.{moved_there, room_enough}
use Rattle.lf_barrier.proofs.planning.plan_inside.Goals as goal

pub room_for-requires-clause-there : goal.room_for-requires-clause-there
room_for-requires-clause-there g c κs within =
    let h = c.requires.asked in
    moved_there (g.S.Store.rows c.args.store.now) c.args.regions.now h.0 (h.1).domain c.args.target c.args.value c.args.home (c.in_ok-moved.moved).keys (c.in_ok-moved.ensures.moved h.0 h.1) c.as_slice.result.now c.as_slice.ensures.keys

pub returns-clause-enough : goal.returns-clause-enough
returns-clause-enough g c =
    let h = c.requires.asked in
    let rows = g.S.Store.rows c.args.store.now in
    room_enough rows (g.S.Store.rows c.reserve.new.self) c.args.target c.args.key (c.in_ok-moved.moved).keys c.in-Some.cells (g.S.Store.spare c.reserve.new.self (In c.args.home)) c.reserve.ensures.rows
    (((((h.1).domain).counts).store).rows).differ
    (c.in-Some.ensures ∙ ap (λ l. 1 + sum_by (room_for_row rows) l) c.as_slice.ensures.keys) c.in_ok-reserve.ensures.enough
