use Rattle.std.proofs.Common.{Some, ap, sym, ◌∙◌}
use Rattle.lf_base.specs.EdgeLists.{near_edges}
use Rattle.lf_domain.proofs.CountedEdges.{region_there}
use Rattle.lf_barrier.proofs.survey.Survey.visit.Goals as goal

pub touch-requires : goal.touch-requires
touch-requires g c =
    let h = c.requires.domain in
    region_there (g.S.Store.rows c.args.store.now) c.args.regions.now (h.0).rows (near_edges h.0) c.args.o (h.1).counts ((h.1).well_formed).bridge c.in-In.r
    (sym c.in-Some.ensures.owner ∙ ap Some c.in-In.is)
