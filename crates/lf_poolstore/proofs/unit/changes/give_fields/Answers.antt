use Rattle.std.proofs.Common.{Some, ap, sym, ◌∙◌}
use Rattle.lf_pool.proofs.Beheads.{node_other}
use Rattle.lf_poolstore.proofs.unit.changes.give_fields.Goals as goal

pub returns-then-first-ne-NONE-clause-others : goal.returns-then-first-ne-NONE-clause-others
returns-then-first-ne-NONE-clause-others c d zs z n = c.give_all.ensures.others d zs z (λ e. n (node_other c.args.first c.if-first-ne-NONE.true ∙ ap Some (sym e)))
