use Rattle.std.proofs.Common.{refl}
use Rattle.lf_base.specs.PlainChanges.{object_result}
use Rattle.lf_trials.specs.TwoRegions.{two_regions}
use Rattle.lf_trials.proofs.BarrierStates.{asked}
use Rattle.lf_trials.proofs.TwoRegions.{local_domain, well_two}
use Rattle.lf_trials.proofs.barrier_cases.moves_object.Goals as goal

pub add_object-requires-clause-next : goal.add_object-requires-clause-next
add_object-requires-clause-next g c κs within = (two_regions, (well_two, (c.in_ok-store.ensures, refl)))

pub plan_write-requires-clause-asked : goal.plan_write-requires-clause-asked
plan_write-requires-clause-asked g c κs within =
    (object_result two_regions, asked (g.S.Store.rows c.add_object.new.store) c.in_ok-store.regions (c.in_ok-add_object.ensures.made two_regions well_two c.in_ok-store.ensures refl))

pub apply_write-old-requires-clause-planned : goal.apply_write-old-requires-clause-planned
apply_write-old-requires-clause-planned g c κs within =
    let made = c.in_ok-add_object.ensures.made two_regions well_two c.in_ok-store.ensures refl in (
      object_result two_regions,
      (
        local_domain (g.S.Store.rows c.add_object.new.store) (g.S.Store.rows c.plan_write.new.store) c.in_ok-store.regions c.plan_write.ensures.rows made,
        c.in_ok-plan.ensures.plan (object_result two_regions) (asked (g.S.Store.rows c.add_object.new.store) c.in_ok-store.regions made),
      ),
    )
