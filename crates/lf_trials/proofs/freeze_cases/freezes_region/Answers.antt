use Rattle.std.proofs.Common.{refl, subst, sym}
use Rattle.lf_base.specs.declared.values.Value.TheVariants.{Obj}
use Rattle.lf_base.specs.EdgeLists.{near_edges}
use Rattle.lf_base.specs.FreezeResult.{freeze_result}
use Rattle.lf_transfer.specs.Freezing.{AreFrozenIn}
use Rattle.lf_trials.specs.OwnedRegion.{child_name, with_child}
use Rattle.lf_trials.proofs.freeze_cases.freezes_region.Goals as goal

pub plan_freeze-requires-clause-domain : goal.plan_freeze-requires-clause-domain
plan_freeze-requires-clause-domain g c κs within = (with_child, (c.in_ok-store.ensures, subst (AreFrozenIn with_child) (sym c.new-frozen.ensures) (λ row m. absurd m)))

pub apply_freeze-requires-clause-planned : goal.apply_freeze-requires-clause-planned
apply_freeze-requires-clause-planned g c κs within =
    (with_child, (Obj child_name, (c.in_ok-store.ensures, c.in_ok-plan.ensures.plan with_child c.in_ok-store.ensures (subst (AreFrozenIn with_child) (sym c.new-frozen.ensures) (λ row m. absurd m)))))

pub told-requires-after_bounds : goal.told-requires-after_bounds
told-requires-after_bounds g c κs within =
    let p = c.in_ok-plan.ensures.plan with_child c.in_ok-store.ensures (subst (AreFrozenIn with_child) (sym c.new-frozen.ensures) (λ row m. absurd m)) in
    let after = freeze_result with_child (Obj child_name) in
    (after.rows, (near_edges after, (c.apply_freeze.ensures.counts with_child (Obj child_name) c.in_ok-store.ensures p, refl)))
