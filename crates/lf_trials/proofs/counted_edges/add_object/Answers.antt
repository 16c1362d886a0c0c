use Rattle.std.proofs.Common.{ap, inl, refl, subst, ◌∙◌}
use Rattle.lf_base.specs.declared.values.Owner.TheVariants.{Local}
use Rattle.lf_base.specs.EdgeLists.{near_edges}
use Rattle.lf_graph.specs.RowChanges.{with_new_row}
use Rattle.lf_graph.specs.StoredRows.{SameByOwner, row_named}
use Rattle.lf_graph.proofs.Stores.AfterCalls.{found_after}
use Rattle.lf_domain.proofs.CountedEdges.{same_rows_count}
use Rattle.lf_domain.proofs.NewRowCounts.{next_is_new, object_counts}
use Rattle.lf_trials.proofs.counted_edges.add_object.Goals as goal

pub insert-requires-clause-new : goal.insert-requires-clause-new
insert-requires-clause-new g c =
    let before = g.S.Store.rows c.args.store.now in
    let n = c.requires.next in
    found_after (g.S.Store.rows c.reserve.new.self) before c.args.name c.reserve.ensures.rows ((n.1.1.0).store).rows.differ
    ∙ ap (row_named before) n.1.1.1
    ∙ next_is_new n.0 n.1.0 before c.args.regions.now n.1.1.0 Local (inl refl)

pub returns : goal.returns
returns g c = record {
  made = λ s well counts is.
      let reserved = g.S.Store.rows c.reserve.new.self in
      let inserted = g.S.Store.rows c.insert.new.self in
      let kept = same_rows_count (g.S.Store.rows c.args.store.now) reserved c.args.regions.now s.rows (near_edges s) c.reserve.ensures.rows counts in
      object_counts s well reserved c.args.regions.now kept inserted
      (subst (λ n. SameByOwner inserted (with_new_row reserved n Local)) is c.insert.ensures.rows);
}
