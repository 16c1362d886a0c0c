use Rattle.std.proofs.Common.{[], ap, sym, ◌++◌, ◌∙◌, ◌∷◌}
use Rattle.lf_graph.specs.StoredRows.{fields_at}
use Rattle.lf_graph.proofs.ListLemmas.{take_next}
use Rattle.lf_graph.proofs.callers.copy_fields.Goals as goal

pub loop-at-preserved : goal.loop-at-preserved
loop-at-preserved g c =
    c.in-Ok.ensures.ok ∙ ap (λ t. t ++ c.in-Some.field ∷ []) c.loop-at.invariant
    ∙ sym (take_next (fields_at (g.S.Store.rows c.args.store.now) c.args.o) c.loop-at.at c.in-Some.field (sym c.in-Some.ensures.field))
