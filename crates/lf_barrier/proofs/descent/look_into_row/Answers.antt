use Rattle.std.proofs.Common.{arith, subst, sym, ◌∙◌}
use Rattle.lf_base.specs.Names.{targets_of_value}
use Rattle.lf_graph.specs.StoredRows.{fields_at}
use Rattle.lf_barrier.specs.Descents.{Looked}
use Rattle.lf_barrier.proofs.MovingEdges.FieldLoops.{walk_not_over}
use Rattle.lf_barrier.proofs.Descents.OwnedRegions.{row_look_begins, row_look_found, row_look_on, row_looked}
use Rattle.lf_barrier.proofs.Surveys.SurveyRows.{stored_keys}
use Rattle.lf_barrier.proofs.descent.look_into_row.Goals as goal

pub loop-turn-init : goal.loop-turn-init
loop-turn-init g c = row_look_begins (g.S.Store.rows c.args.store.now) c.args.r c.args.home (fields_at (g.S.Store.rows c.args.store.now) c.args.p) c.args.visited.now.keys

pub unreachable-requires : goal.unreachable-requires
unreachable-requires g c =
    let r = c.loop-turn.invariant in
    walk_not_over (fields_at (g.S.Store.rows c.args.store.now) c.args.p) r.rest c.loop-turn.last c.loop-turn._turn r.walk
    (sym c.in_default.is ∙ c.field_after.ensures.field) (omega (arith, c.loop-turn-test.true, c.width-width.ensures.width))

pub loop-turn-preserved : goal.loop-turn-preserved
loop-turn-preserved g c =
    let rows = g.S.Store.rows c.args.store.now in
    let h = c.requires.domain in
    let passed = subst (Looked rows c.args.r c.args.home (targets_of_value c.in-Some.v) c.loop-turn.visited.keys c.look_at_value.new.visited.keys) c.if-branch.false c.in_ok-look_at_value.ensures in
    row_look_on rows c.args.r c.args.home (fields_at rows c.args.p) c.loop-turn.last c.loop-turn._turn c.args.visited.now.keys c.loop-turn.visited.keys c.look_at_value.new.visited.keys c.in-Some.key c.in-Some.v
    (stored_keys rows h.0 h.1.0 h.1.1 c.args.p) c.loop-turn.invariant (sym c.in-Some.is ∙ c.field_after.ensures.field) passed

pub returns-then-branch : goal.returns-then-branch
returns-then-branch g c =
    let rows = g.S.Store.rows c.args.store.now in
    let found = subst (Looked rows c.args.r c.args.home (targets_of_value c.in-Some.v) c.loop-turn.visited.keys c.look_at_value.new.visited.keys) c.if-branch.true c.in_ok-look_at_value.ensures in (
      row_look_found rows c.args.r c.args.home (fields_at rows c.args.p) c.loop-turn.last c.loop-turn._turn c.args.visited.now.keys c.loop-turn.visited.keys c.in-Some.key c.in-Some.v
          c.loop-turn.invariant (sym c.in-Some.is ∙ c.field_after.ensures.field) c.args.home found.0,
      found.1,
    )

pub returns : goal.returns
returns g c =
    row_looked (g.S.Store.rows c.args.store.now) c.args.r c.args.home (fields_at (g.S.Store.rows c.args.store.now) c.args.p) c.loop-turn.last c.loop-turn._turn c.args.visited.now.keys c.loop-turn.visited.keys
    c.loop-turn.invariant (omega (arith, c.loop-turn-test.false, c.width-width.ensures.width))
