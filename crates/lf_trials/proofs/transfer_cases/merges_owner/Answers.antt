use Rattle.lf_base.specs.EdgeLists.{near_edges}
use Rattle.lf_base.specs.MergeResult.{merge_result}
use Rattle.lf_trials.specs.OwnedRegion.{with_child}
use Rattle.lf_trials.proofs.OwnedRegion.{merged_bridge, still}
use Rattle.lf_trials.proofs.transfer_cases.merges_owner.Goals as goal

pub plan_merge-requires-clause-domain : goal.plan_merge-requires-clause-domain
plan_merge-requires-clause-domain g c κs within = (with_child, c.in_ok-store.ensures)

pub apply_merge-requires-clause-planned : goal.apply_merge-requires-clause-planned
apply_merge-requires-clause-planned g c κs within = (
  with_child,
  (
    still (g.S.Store.rows c.in_ok-store.store) (g.S.Store.rows c.plan_merge.new.store) c.in_ok-store.regions with_child c.plan_merge.ensures.rows c.in_ok-store.ensures,
    c.in_ok-plan.ensures.plan with_child c.in_ok-store.ensures,
  ),
)

pub told-requires-after_bounds : goal.told-requires-after_bounds
told-requires-after_bounds g c κs within =
    let d = still (g.S.Store.rows c.in_ok-store.store) (g.S.Store.rows c.plan_merge.new.store) c.in_ok-store.regions with_child c.plan_merge.ensures.rows c.in_ok-store.ensures in
    let p = c.in_ok-plan.plan in
    let after = merge_result with_child p.into p.from in (
      after.rows,
      (
        near_edges after,
        (
          c.apply_merge.ensures.counts with_child d (c.in_ok-plan.ensures.plan with_child c.in_ok-store.ensures),
          merged_bridge p.into p.from (c.in_ok-plan.ensures.into with_child c.in_ok-store.ensures) (c.in_ok-plan.ensures.from with_child c.in_ok-store.ensures),
        ),
      ),
    )
