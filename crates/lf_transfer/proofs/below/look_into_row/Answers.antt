use Rattle.std.proofs.Common.{arith, sym, ◌∙◌}
use Rattle.lf_graph.specs.StoredRows.{fields_at}
use Rattle.lf_barrier.proofs.MovingEdges.FieldLoops.{walk_not_over}
use Rattle.lf_barrier.proofs.Surveys.SurveyRows.{stored_keys}
use Rattle.lf_transfer.proofs.RegionsBelow.FoundBridges.{field_found, fields_found, holds_after_fields, no_field_yet}
use Rattle.lf_transfer.proofs.below.look_into_row.Goals as goal

pub loop-turn-init : goal.loop-turn-init
loop-turn-init g c = no_field_yet (g.S.Store.rows c.args.store.now) c.args.q (fields_at (g.S.Store.rows c.args.store.now) c.args.p) c.args.below.now

pub unreachable-requires : goal.unreachable-requires
unreachable-requires g c =
    let t = (c.loop-turn.invariant).taken in
    walk_not_over (fields_at (g.S.Store.rows c.args.store.now) c.args.p) t.rest c.loop-turn.last c.loop-turn._turn t.walk
    (sym c.in_default.is ∙ c.field_after.ensures.field) (omega (arith, c.loop-turn-test.true, c.width-width.ensures.width))

pub look_at_value-requires-clause-room : goal.look_at_value-requires-clause-room
look_at_value-requires-clause-room g c κs within =
    let rows = g.S.Store.rows c.args.store.now in
    holds_after_fields rows c.args.q (fields_at rows c.args.p) c.loop-turn.last c.loop-turn._turn c.args.below.now c.loop-turn.below c.loop-turn.invariant c.requires.room

pub loop-turn-preserved : goal.loop-turn-preserved
loop-turn-preserved g c =
    let rows = g.S.Store.rows c.args.store.now in
    let h = c.requires.domain in
    field_found rows c.args.q (fields_at rows c.args.p) c.loop-turn.last c.loop-turn._turn c.args.below.now c.loop-turn.below c.loop-turn.invariant
    (stored_keys rows h.0 h.1.0 h.1.1 c.args.p) c.in-Some.key c.in-Some.v (sym c.in-Some.is ∙ c.field_after.ensures.field) c.look_at_value.new.below c.look_at_value.ensures

pub returns : goal.returns
returns g c =
    let rows = g.S.Store.rows c.args.store.now in
    fields_found rows c.args.q (fields_at rows c.args.p) c.loop-turn.last c.loop-turn._turn c.args.below.now c.loop-turn.below c.loop-turn.invariant (omega (arith, c.loop-turn-test.false, c.width-width.ensures.width))
