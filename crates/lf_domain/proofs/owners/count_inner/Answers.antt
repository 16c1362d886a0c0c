use Rattle.std.proofs.Common.{Some, subst, sym, ◌++◌}
use Rattle.lf_base.specs.Edges.{Field, edges_by}
use Rattle.lf_domain.specs.Counts.{Counts}
use Rattle.lf_domain.specs.OneEdge.{MayCountOwner}
use Rattle.lf_domain.proofs.owners.count_inner.Goals as goal

pub returns-in-Some-clause-counted : goal.returns-in-Some-clause-counted
returns-in-Some-clause-counted g c of es p m =
    subst (λ l. Counts (g.S.Store.rows c.count_object.new.store) c.count_object.new.regions of (edges_by (Field p) l ++ es)) c.in-Some.ensures
    (c.count_object.ensures.counted of es (Field p) (subst (λ l. MayCountOwner (g.S.Store.rows c.args.store.now) c.args.regions.now of es (Field p) l (Some c.args.home)) (sym c.in-Some.ensures) m))
