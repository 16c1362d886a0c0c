use Rattle.std.proofs.Common.{ap, inl, refl, subst, sym, ◌∙◌}
use Rattle.lf_base.specs.declared.values.Owner.TheVariants.{In, Local}
use Rattle.lf_base.specs.EdgeLists.{near_edges}
use Rattle.lf_base.specs.PlainChanges.{region_result}
use Rattle.lf_graph.specs.RowChanges.{with_new_row}
use Rattle.lf_graph.specs.StoredRows.{SameByOwner, row_named}
use Rattle.lf_graph.proofs.Stores.AfterCalls.{found_after}
use Rattle.lf_regions.specs.RegionChanges.{with_region}
use Rattle.lf_regions.specs.Regions.{has_region}
use Rattle.lf_domain.specs.Counts.{CountsOf}
use Rattle.lf_domain.proofs.CountedEdges.{same_rows_count}
use Rattle.lf_domain.proofs.NewRowCounts.{next_has_no_region, next_is_new, region_counts}
use Rattle.lf_trials.proofs.counted_edges.add_region.Goals as goal

pub make-requires : goal.make-requires
make-requires g c =
    let n = c.requires.next in
    ap (has_region c.args.regions.now) n.1.1.1 ∙ next_has_no_region n.0 n.1.0 (g.S.Store.rows c.args.store.now) c.args.regions.now n.1.1.0 Local (inl refl)

pub insert-requires-clause-new : goal.insert-requires-clause-new
insert-requires-clause-new g c =
    let before = g.S.Store.rows c.args.store.now in
    let n = c.requires.next in
    found_after (g.S.Store.rows c.reserve.new.self) before c.args.name c.reserve.ensures.rows ((n.1.1.0).store).rows.differ
    ∙ ap (row_named before) n.1.1.1
    ∙ next_is_new n.0 n.1.0 before c.args.regions.now n.1.1.0 Local (inl refl)

pub returns : goal.returns
returns g c = record {
  made = λ s well counts is.
      let reserved = g.S.Store.rows c.reserve.new.self in
      let inserted = g.S.Store.rows c.insert.new.self in
      let kept = same_rows_count (g.S.Store.rows c.args.store.now) reserved c.args.regions.now s.rows (near_edges s) c.reserve.ensures.rows counts in
      subst (λ l. CountsOf inserted l (region_result s)) (sym (c.in_ok-make.ensures.made ∙ ap (with_region c.args.regions.now) is))
      (region_counts s well reserved c.args.regions.now kept inserted
      (subst (λ n. SameByOwner inserted (with_new_row reserved n (In n))) is c.insert.ensures.rows));
}
