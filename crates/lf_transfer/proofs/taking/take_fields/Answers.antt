use Rattle.std.proofs.Common.{arith, sym, ◌∙◌}
use Rattle.lf_graph.specs.StoredRows.{fields_at}
use Rattle.lf_barrier.proofs.MovingEdges.FieldLoops.{walk_not_over}
use Rattle.lf_barrier.proofs.Surveys.SurveyRows.{stored_keys}
use Rattle.lf_transfer.specs.Taking.{is_stored}
use Rattle.lf_transfer.proofs.Taken.TakenObjects.{fields_begin, fields_copied, fields_on, fields_taken}
use Rattle.lf_transfer.proofs.taking.take_fields.Goals as goal

pub loop-turn-init : goal.loop-turn-init
loop-turn-init g c = fields_begin (is_stored (g.S.Store.rows c.args.store.now)) (fields_at (g.S.Store.rows c.args.store.now) c.args.p) c.new-fields.result c.args.taken.now.keys c.new-fields.ensures

pub unreachable-requires : goal.unreachable-requires
unreachable-requires g c =
    let r = c.loop-turn.invariant in
    walk_not_over (fields_at (g.S.Store.rows c.args.store.now) c.args.p) r.rest c.loop-turn.last c.loop-turn._turn r.walk
    (sym c.in_default.is ∙ c.field_after.ensures.field) (omega (arith, c.loop-turn-test.true, c.width-width.ensures.width))

pub loop-turn-preserved : goal.loop-turn-preserved
loop-turn-preserved g c =
    let rows = g.S.Store.rows c.args.store.now in
    let h = c.requires.domain in
    fields_on (is_stored rows) (fields_at rows c.args.p) c.loop-turn.last c.loop-turn._turn c.loop-turn.fields c.args.taken.now.keys c.loop-turn.taken.keys c.loop-turn.invariant (stored_keys rows h.0 h.1.0 h.1.1 c.args.p)
    c.in-Some.key c.in-Some.v (sym c.in-Some.is ∙ c.field_after.ensures.field) c.take_value.new.taken.keys c.in_ok-take_value.ensures c.push_field.new.fields c.in_ok-push_field.ensures

pub returns-clause-taken : goal.returns-clause-taken
returns-clause-taken g c =
    let rows = g.S.Store.rows c.args.store.now in
    fields_taken (is_stored rows) (fields_at rows c.args.p) c.loop-turn.last c.loop-turn._turn c.loop-turn.fields c.args.taken.now.keys c.loop-turn.taken.keys c.loop-turn.invariant (omega (arith, c.loop-turn-test.false, c.width-width.ensures.width))

pub returns-clause-fields : goal.returns-clause-fields
returns-clause-fields g c =
    let rows = g.S.Store.rows c.args.store.now in
    fields_copied (is_stored rows) (fields_at rows c.args.p) c.loop-turn.last c.loop-turn._turn c.loop-turn.fields c.args.taken.now.keys c.loop-turn.taken.keys c.loop-turn.invariant (omega (arith, c.loop-turn-test.false, c.width-width.ensures.width))
