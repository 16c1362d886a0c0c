use Rattle.std.proofs.Common.{subst, ◌++◌}
use Rattle.lf_base.specs.Edges.{edges_by}
use Rattle.lf_domain.specs.Counts.{Counts}
use Rattle.lf_domain.proofs.borrowers.count_borrow.Goals as goal

pub returns-in-Some-clause-counted : goal.returns-in-Some-clause-counted
returns-in-Some-clause-counted g c of es from m near =
    subst (λ l. Counts (g.S.Store.rows c.count_object.new.store) c.count_object.new.regions of (edges_by from l ++ es)) c.in-Some.ensures
    (c.count_object.ensures.counted of es from m near)
