use Rattle.std.proofs.Common.{ap, subst, sym, ◌∙◌}
use Rattle.std.specs.Prelude.{option_to_list}
use Rattle.lf_domain.specs.OneEdge.{MayUncount}
use Rattle.lf_domain.proofs.CountedEdges.{same_counts}
use Rattle.lf_domain.proofs.borrowers.uncount_borrow.Goals as goal

pub returns-in-Some-clause-counted : goal.returns-in-Some-clause-counted
returns-in-Some-clause-counted g c of es fs from m =
    c.uncount_object.ensures.counted of es fs from (subst (λ l. MayUncount (g.S.Store.rows c.args.store.now) c.args.regions.now of es fs from l) (sym c.in-Some.ensures) m)

pub returns-in_default-clause-counted : goal.returns-in_default-clause-counted
returns-in_default-clause-counted g c of es fs from m =
    let n = subst (λ l. MayUncount (g.S.Store.rows c.args.store.now) c.args.regions.now of es fs from l) (sym (ap option_to_list (sym c.in_default.is) ∙ c.target_of.ensures)) m in
    same_counts (g.S.Store.rows c.args.store.now) c.args.regions.now of es fs n.edges n.counts
