use Rattle.std.proofs.Common.{arith, sym, ◌∙◌}
use Rattle.lf_base.specs.Names.{targets_of_value}
use Rattle.lf_graph.specs.StoredRows.{fields_at}
use Rattle.lf_barrier.proofs.MovingEdges.FieldLoops.{walk_not_over}
use Rattle.lf_barrier.proofs.Surveys.SurveyRows.{stored_keys}
use Rattle.lf_transfer.proofs.Tables.LocalReferences.{regions_stay}
use Rattle.lf_transfer.proofs.Tables.LocalRows.{room_for_value, row_begins, row_on, row_turned}
use Rattle.lf_transfer.proofs.localizing.localize_row.Goals as goal

pub loop-turn-init : goal.loop-turn-init
loop-turn-init g c =
    let rows = g.S.Store.rows c.args.store.now in
    record {
      so_far = row_begins rows c.args.r (fields_at rows c.args.p) c.args.regions.now;
      there = c.requires.regions;
      steps = omega (arith, c.width-width.ensures.step);
    }

pub unreachable-requires : goal.unreachable-requires
unreachable-requires g c =
    let all = fields_at (g.S.Store.rows c.args.store.now) c.args.p in
    let u = c.loop-turn.invariant.so_far in
    walk_not_over all u.rest c.loop-turn.last c.loop-turn._turn u.walk (sym c.in_default.is ∙ c.field_after.ensures.field) (omega (arith, c.loop-turn-test.true, c.width-width.ensures.width))

pub localize_value-requires-clause-fits : goal.localize_value-requires-clause-fits
localize_value-requires-clause-fits g c κs within =
    let rows = g.S.Store.rows c.args.store.now in
    room_for_value rows c.args.r (fields_at rows c.args.p) c.loop-turn.last c.loop-turn._turn c.args.regions.now c.loop-turn.regions c.loop-turn.invariant.so_far c.in-Some.key c.in-Some.v
    (sym c.in-Some.is ∙ c.field_after.ensures.field) c.requires.fits

pub loop-turn-preserved : goal.loop-turn-preserved
loop-turn-preserved g c =
    let rows = g.S.Store.rows c.args.store.now in
    let h = c.requires.domain in
    record {
      so_far = row_on rows c.args.r (fields_at rows c.args.p) c.loop-turn.last c.loop-turn._turn c.args.regions.now c.loop-turn.regions c.loop-turn.invariant.so_far c.in-Some.key c.in-Some.v
          (sym c.in-Some.is ∙ c.field_after.ensures.field) (stored_keys rows h.0 h.1.0 h.1.1 c.args.p) c.localize_value.new.regions c.localize_value.ensures.turns;
      there = regions_stay rows c.args.r (targets_of_value c.in-Some.v) c.loop-turn.regions c.localize_value.new.regions c.localize_value.ensures.turns c.loop-turn.invariant.there;
      steps = omega (arith, c.loop-turn.invariant.steps, c.field_after.ensures.step, c.localize_value.ensures.steps);
    }

pub returns-clause-turns : goal.returns-clause-turns
returns-clause-turns g c =
    let rows = g.S.Store.rows c.args.store.now in
    row_turned rows c.args.r (fields_at rows c.args.p) c.loop-turn.last c.loop-turn._turn c.args.regions.now c.loop-turn.regions c.loop-turn.invariant.so_far
    (omega (arith, c.loop-turn-test.false, c.width-width.ensures.width))

pub returns-clause-steps : goal.returns-clause-steps
returns-clause-steps g c = omega (arith, c.loop-turn.invariant.steps, c.loop-turn.auto._turn-end, c.width-width.ensures.width)
