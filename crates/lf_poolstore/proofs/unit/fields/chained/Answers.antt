use Rattle.std.proofs.Common.{Some, ap, sym, ◌∙◌}
use Rattle.lf_pool.proofs.Beheads.{node_other}
use Rattle.lf_poolstore.proofs.unit.fields.chained.Goals as goal

pub returns-clause-others : goal.returns-clause-others
returns-clause-others c d zs z n away = c.push_last.ensures.others d zs z (λ e. n (node_other c.args.first c.if-first-eq-NONE.false ∙ ap Some (sym e))) away
