use Rattle.std.proofs.Common.{arith, sym, ◌∙◌}
use Rattle.lf_graph.specs.StoredRows.{fields_at}
use Rattle.lf_barrier.proofs.MovingEdges.FieldLoops.{walk_not_over}
use Rattle.lf_barrier.proofs.Surveys.SurveySteps.{row_begins, row_goes_on, row_visited}
use Rattle.lf_barrier.proofs.Surveys.SurveyRows.{stored_keys}
use Rattle.lf_barrier.proofs.survey.Survey.visit_row.Goals as goal

pub loop-turn-init : goal.loop-turn-init
loop-turn-init g c = row_begins (g.S.Store.rows c.args.store.now) c.args.regions.now c.args.place.home c.args.place.old (fields_at (g.S.Store.rows c.args.store.now) c.args.p) c.args.self.now

pub unreachable-requires : goal.unreachable-requires
unreachable-requires g c =
    let r = c.loop-turn.invariant in
    walk_not_over (fields_at (g.S.Store.rows c.args.store.now) c.args.p) r.rest c.loop-turn.last c.loop-turn._turn r.walk
    (sym c.in_default.is ∙ c.field_after.ensures.field) (omega (arith, c.loop-turn-test.true, c.width-width.ensures.width))

pub loop-turn-preserved : goal.loop-turn-preserved
loop-turn-preserved g c =
    let h = c.requires.domain in
    row_goes_on (g.S.Store.rows c.args.store.now) c.args.regions.now c.args.place.home c.args.place.old (fields_at (g.S.Store.rows c.args.store.now) c.args.p) c.loop-turn.last c.loop-turn._turn
    c.args.self.now c.loop-turn.self c.visit_value.new.self c.in-Some.key c.in-Some.v
    (stored_keys (g.S.Store.rows c.args.store.now) c.args.regions.now h.0 h.1 c.args.p) c.loop-turn.invariant (sym c.in-Some.is ∙ c.field_after.ensures.field) c.in_ok-visit_value.ensures

pub returns : goal.returns
returns g c =
    row_visited (g.S.Store.rows c.args.store.now) c.args.regions.now c.args.place.home c.args.place.old (fields_at (g.S.Store.rows c.args.store.now) c.args.p) c.loop-turn.last c.loop-turn._turn
    c.args.self.now c.loop-turn.self c.loop-turn.invariant (omega (arith, c.loop-turn-test.false, c.width-width.ensures.width))
