use Rattle.std.proofs.Common.{ap, subst, sym, ◌∙◌}
use Rattle.lf_base.specs.declared.values.Owner.TheVariants.{In}
use Rattle.lf_graph.specs.Parts.{AllNew}
use Rattle.lf_graph.specs.StoredRows.{rows_of}
use Rattle.lf_graph.proofs.Stores.AfterCalls.{back_again}
use Rattle.lf_graph.proofs.Stores.Walks.{none_outside, part_new}
use Rattle.lf_graph.proofs.callers.out_and_in.Goals as goal

pub returns-in-Err-clause-left : goal.returns-in-Err-clause-left
returns-in-Err-clause-left g c = c.in-Err.ensures.unchanged

pub part_in-requires-clause-new : goal.part_in-requires-clause-new
part_in-requires-clause-new g c =
    subst (λ l. AllNew l (g.S.Store.rows c.part_out.new.self)) (sym c.in-Ok.ensures.part)
    (part_new (g.S.Store.rows c.args.store.now) (g.S.Store.rows c.part_out.new.self) (In c.args.region) c.requires.differ c.in-Ok.ensures.rows)

pub part_in-requires-clause-empty : goal.part_in-requires-clause-empty
part_in-requires-clause-empty g c =
    ap (λ r. rows_of (In r) (g.S.Store.rows c.part_out.new.self)) c.in-Ok.ensures.region
    ∙ c.in-Ok.ensures.rows (In c.args.region) ∙ none_outside (In c.args.region) (g.S.Store.rows c.args.store.now)

pub returns-in-Ok-part_in-clause-back : goal.returns-in-Ok-part_in-clause-back
returns-in-Ok-part_in-clause-back g c = back_again _ (g.S.Store.rows c.part_out.new.self) (g.S.Store.rows c.args.store.now) _ (In c.args.region) c.in-Ok.ensures.part c.in-Ok.ensures.rows c.in-Ok-part_in.ensures.rows

pub returns-in-Err-part_in-clause-left : goal.returns-in-Err-part_in-clause-left
returns-in-Err-part_in-clause-left g c =
    (c.in-Err-part_in.ensures.part ∙ c.in-Ok.ensures.part, (λ v. c.in-Err-part_in.ensures.unchanged v ∙ c.in-Ok.ensures.rows v))
