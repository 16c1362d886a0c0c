use Rattle.std.proofs.Common.{arith, sym, ◌∙◌, ap, ◌≡◌, ◌+◌}
use Rattle.std.specs.List.{list_any}
use Rattle.lf_base.specs.Names.{targets_of_value}
use Rattle.lf_graph.specs.StoredRows.{fields_at}
use Rattle.lf_barrier.proofs.MovingEdges.FieldLoops.{walk_not_over}
use Rattle.lf_barrier.proofs.Surveys.SurveyRows.{stored_keys}
use Rattle.lf_laws.proofs.Edges.EdgeParts.{bit}
use Rattle.lf_transfer.specs.Freezing.{is_taken_in}
use Rattle.lf_transfer.proofs.Freezes.LostBorrows.{row_count_begins, row_count_on, row_counted}
use Rattle.lf_transfer.proofs.losing.count_taken.Goals as goal
use Rattle.lf_transfer.proofs.losing.count_taken.Goals.{else-leads_to_taken, then-leads_to_taken}

pub loop-turn-init : goal.loop-turn-init
loop-turn-init g c = row_count_begins (g.S.Store.rows c.args.store.now) c.args.taken.now.keys c.args.r (fields_at (g.S.Store.rows c.args.store.now) c.args.p)

pub unreachable-requires : goal.unreachable-requires
unreachable-requires g c =
    let r = c.loop-turn.invariant in
    walk_not_over (fields_at (g.S.Store.rows c.args.store.now) c.args.p) r.rest c.loop-turn.last c.loop-turn._turn r.walk
    (sym c.in_default.is ∙ c.field_after.ensures.field) (omega (arith, c.loop-turn-test.true, c.width-width.ensures.width))

pub loop-turn-preserved : goal.loop-turn-preserved
loop-turn-preserved g c =
    let rows = g.S.Store.rows c.args.store.now in
    let h = c.requires.domain in
    let next : c.if-leads_to_taken.count ≡ c.loop-turn.count + bit (list_any (is_taken_in rows c.args.taken.now.keys c.args.r) (targets_of_value c.in-Some.v)) = elim c.if-leads_to_taken.branch [
      | then-leads_to_taken w ↦ omega (arith, w.count-is, ap (λ b. bit b) (sym c.leads_to_taken.ensures ∙ w.if-leads_to_taken.true))
      | else-leads_to_taken w ↦ omega (arith, w.count-is, ap (λ b. bit b) (sym c.leads_to_taken.ensures ∙ w.if-leads_to_taken.false))
    ] in
    row_count_on rows c.args.taken.now.keys c.args.r (fields_at rows c.args.p) c.loop-turn.last c.loop-turn._turn c.loop-turn.count c.loop-turn.invariant (stored_keys rows h.0 h.1.0 h.1.1 c.args.p)
    c.in-Some.key c.in-Some.v (sym c.in-Some.is ∙ c.field_after.ensures.field) c.if-leads_to_taken.count next

pub returns : goal.returns
returns g c =
    row_counted (g.S.Store.rows c.args.store.now) c.args.taken.now.keys c.args.r (fields_at (g.S.Store.rows c.args.store.now) c.args.p) c.loop-turn.last c.loop-turn._turn c.loop-turn.count c.loop-turn.invariant
    (omega (arith, c.loop-turn-test.false, c.width-width.ensures.width))
