use Rattle.std.proofs.Common.{sym, ◌∙◌}
use Rattle.lf_graph.specs.StoredRows.{fields_at}
use Rattle.lf_barrier.proofs.Surveys.SurveyRows.{stored_keys}
use Rattle.lf_transfer.proofs.Walks.References.{search_begins, search_on}
use Rattle.lf_transfer.proofs.bridges.row_refers_to.Goals as goal

pub loop-turn-init : goal.loop-turn-init
loop-turn-init g c = search_begins (fields_at (g.S.Store.rows c.args.store.now) c.args.p) c.args.o

pub loop-turn-preserved : goal.loop-turn-preserved
loop-turn-preserved g c =
    let rows = g.S.Store.rows c.args.store.now in
    let h = c.requires.domain in
    search_on (fields_at rows c.args.p) c.loop-turn.last c.loop-turn._turn c.args.o c.loop-turn.invariant c.in-Some.key c.in-Some.v (sym c.in-Some.is ∙ c.field_after.ensures.field)
    (stored_keys rows h.0 h.1.0 h.1.1 c.args.p) (sym c.is_reference.ensures ∙ c.if-is_reference.false)
