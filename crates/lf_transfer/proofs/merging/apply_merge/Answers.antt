use Rattle.std.proofs.Common.{subst, sym, true, ◌∙◌, ◌≡◌}
use Rattle.lf_base.specs.Edges.{edges}
use Rattle.lf_base.specs.MergeResult.{merge_result}
use Rattle.lf_base.specs.Names.{same_name}
use Rattle.lf_domain.proofs.NearCounts.{from_near}
use Rattle.lf_domain.specs.Counts.{CountsOf}
use Rattle.lf_transfer.specs.Merging.{IsMergeOf, Merging}
use Rattle.lf_transfer.proofs.States.MergedCounts.{itself_counts, merged_counts}
use Rattle.lf_transfer.proofs.merging.apply_merge.Goals as goal

pub returns-then-is_same-clause-counts : goal.returns-then-is_same-clause-counts
returns-then-is_same-clause-counts g c s d m =
    let same = subst (λ (p : Merging). same_name p.into p.from ≡ true) c.plan.view_is (sym c.is_same.ensures ∙ c.if-is_same.true) in
    itself_counts (g.S.Store.rows c.args.store.now) c.args.regions.now s c.args.plan.into c.args.plan.from same d.counts

pub returns-clause-counts : goal.returns-clause-counts
returns-clause-counts g c s d m =
    let rows = g.S.Store.rows c.args.store.now in
    let other = sym c.is_same.ensures ∙ c.if-is_same.false in
    let inside = subst (IsMergeOf s) (sym c.plan.view_is) m in
    subst (λ (p : Merging). CountsOf (g.S.Store.rows c.give_region.new.store) c.join.new.regions (merge_result s p.into p.from)) c.plan.view_is
    (merged_counts rows (g.S.Store.rows c.give_region.new.store) c.args.regions.now c.join.new.regions s c.plan.inside.into c.plan.inside.from c.plan.inside.is_child d inside.into inside.from other inside.allowed inside.child
    (c.give_region.ensures.given s.rows (edges s) (from_near s d.well_formed rows c.args.regions.now d.counts).store) c.join.ensures)
