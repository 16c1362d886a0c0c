use Rattle.std.proofs.Common.{None, subst, sym, ◌++◌}
use Rattle.lf_base.specs.Edges.{Content, edges_by}
use Rattle.lf_domain.specs.Counts.{Counts}
use Rattle.lf_domain.specs.OneEdge.{MayCountOwner}
use Rattle.lf_domain.proofs.owners.count_content.Goals as goal

pub returns-in-Some-clause-counted : goal.returns-in-Some-clause-counted
returns-in-Some-clause-counted g c of es d m =
    subst (λ l. Counts (g.S.Store.rows c.count_object.new.store) c.count_object.new.regions of (edges_by (Content d) l ++ es)) c.in-Some.ensures
    (c.count_object.ensures.counted of es (Content d) (subst (λ l. MayCountOwner (g.S.Store.rows c.args.store.now) c.args.regions.now of es (Content d) l None) (sym c.in-Some.ensures) m))
