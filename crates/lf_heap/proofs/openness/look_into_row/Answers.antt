use Rattle.std.proofs.Common.{sym, ◌∙◌}
use Rattle.lf_graph.specs.StoredRows.{fields_at}
use Rattle.lf_barrier.proofs.Surveys.SurveyRows.{stored_keys}
use Rattle.lf_heap.proofs.RegionWalks.RowsLooked.{fields_begin, fields_on}
use Rattle.lf_heap.proofs.openness.look_into_row.Goals as goal

pub loop-turn-init : goal.loop-turn-init
loop-turn-init g c = fields_begin (g.S.Store.rows c.args.store.now) c.args.regions.now c.args.r (fields_at (g.S.Store.rows c.args.store.now) c.args.p) c.args.found.now

pub loop-turn-preserved : goal.loop-turn-preserved
loop-turn-preserved g c =
    let rows = g.S.Store.rows c.args.store.now in
    let h = c.requires.domain in
    fields_on rows c.args.regions.now c.args.r (fields_at rows c.args.p) c.loop-turn.last c.loop-turn._turn c.args.found.now c.loop-turn.found c.loop-turn.«open» c.loop-turn.invariant c.in-Some.key c.in-Some.v
    (sym c.in-Some.is ∙ c.field_after.ensures.field) (stored_keys rows c.args.regions.now h.0 h.1 c.args.p) c.look_at_value-child.new.found c.look_at_value-child.result c.look_at_value-child.ensures
