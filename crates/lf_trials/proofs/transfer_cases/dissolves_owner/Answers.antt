use Rattle.lf_base.specs.DissolveResult.{dissolve_result}
use Rattle.lf_base.specs.EdgeLists.{near_edges}
use Rattle.lf_trials.specs.OwnedRegion.{with_child}
use Rattle.lf_trials.proofs.OwnedRegion.{dissolved_bridge, still}
use Rattle.lf_trials.proofs.transfer_cases.dissolves_owner.Goals as goal

pub plan_dissolve-requires-clause-domain : goal.plan_dissolve-requires-clause-domain
plan_dissolve-requires-clause-domain g c κs within = (with_child, c.in_ok-store.ensures)

pub apply_dissolve-requires-clause-planned : goal.apply_dissolve-requires-clause-planned
apply_dissolve-requires-clause-planned g c κs within = (
  with_child,
  (
    still (g.S.Store.rows c.in_ok-store.store) (g.S.Store.rows c.plan_dissolve.new.store) c.in_ok-store.regions with_child c.plan_dissolve.ensures.rows c.in_ok-store.ensures,
    c.in_ok-plan.ensures.plan with_child c.in_ok-store.ensures,
  ),
)

pub told-requires-after_bounds : goal.told-requires-after_bounds
told-requires-after_bounds g c κs within =
    let d = still (g.S.Store.rows c.in_ok-store.store) (g.S.Store.rows c.plan_dissolve.new.store) c.in_ok-store.regions with_child c.plan_dissolve.ensures.rows c.in_ok-store.ensures in
    let p = c.in_ok-plan.plan in
    let after = dissolve_result with_child p.region in (
      after.rows,
      (
        near_edges after,
        (
          c.apply_dissolve.ensures.counts with_child d (c.in_ok-plan.ensures.plan with_child c.in_ok-store.ensures),
          dissolved_bridge p.region (c.in_ok-plan.ensures.region with_child c.in_ok-store.ensures),
        ),
      ),
    )
