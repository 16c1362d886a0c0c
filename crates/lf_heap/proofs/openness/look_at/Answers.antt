use Rattle.std.proofs.Common.{ap, sym, ◌∙◌}
use Rattle.lf_barrier.specs.Descents.{is_child}
use Rattle.lf_domain.proofs.CountedEdges.{region_there}
use Rattle.lf_base.specs.EdgeLists.{near_edges}
use Rattle.lf_graph.specs.StoredRows.{owner_at}
use Rattle.lf_heap.proofs.RegionWalks.FoundLists.{child_owner}
use Rattle.lf_heap.proofs.openness.look_at.Goals as goal

pub borrowed-requires : goal.borrowed-requires
borrowed-requires g c =
    let rows = g.S.Store.rows c.args.store.now in
    let h = c.requires.domain in
    region_there rows c.args.regions.now (h.0).rows (near_edges h.0) c.args.o (h.1).counts ((h.1).well_formed).bridge c.args.o
    (child_owner c.args.o c.args.r (owner_at rows c.args.o)
    (ap (is_child c.args.r c.args.o) (sym c.owner-owner.ensures.owner) ∙ sym c.is_child_of.ensures ∙ c.if-not-is_child_of.false))
