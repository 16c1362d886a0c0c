use Rattle.std.proofs.Common.{refl}
use Rattle.lf_base.specs.EdgeLists.{near_edges}
use Rattle.lf_base.specs.Edges.{Slot}
use Rattle.lf_base.specs.PlainChanges.{object_result}
use Rattle.lf_trials.specs.BorrowedInner.{with_inner}
use Rattle.lf_trials.specs.TwoRegions.{two_regions}
use Rattle.lf_domain.proofs.StateEdges.{may_count}
use Rattle.lf_trials.proofs.BarrierStates.{asked}
use Rattle.lf_trials.proofs.BorrowedInner.{inner_borrowed, inner_written}
use Rattle.lf_trials.proofs.TwoRegions.{local_domain, well_two}
use Rattle.lf_trials.proofs.freeze_cases.made_inner.Goals as goal

pub add_object-requires-clause-next : goal.add_object-requires-clause-next
add_object-requires-clause-next g c κs within = (two_regions, (well_two, (c.in_ok-store.ensures, refl)))

pub plan_write-requires-clause-asked : goal.plan_write-requires-clause-asked
plan_write-requires-clause-asked g c κs within =
    (object_result two_regions, asked (g.S.Store.rows c.add_object.new.store) c.in_ok-store.regions (c.in_ok-add_object.ensures.made two_regions well_two c.in_ok-store.ensures refl))

pub apply_write-requires-clause-planned : goal.apply_write-requires-clause-planned
apply_write-requires-clause-planned g c κs within =
    let made = c.in_ok-add_object.ensures.made two_regions well_two c.in_ok-store.ensures refl in (
      object_result two_regions,
      (
        local_domain (g.S.Store.rows c.add_object.new.store) (g.S.Store.rows c.plan_write.new.store) c.in_ok-store.regions c.plan_write.ensures.rows made,
        c.in_ok-plan.ensures.plan (object_result two_regions) (asked (g.S.Store.rows c.add_object.new.store) c.in_ok-store.regions made),
      ),
    )

pub count_borrow-requires-clause-may : goal.count_borrow-requires-clause-may
count_borrow-requires-clause-may g c κs within =
    let made = c.in_ok-add_object.ensures.made two_regions well_two c.in_ok-store.ensures refl in
    let d = local_domain (g.S.Store.rows c.add_object.new.store) (g.S.Store.rows c.plan_write.new.store) c.in_ok-store.regions c.plan_write.ensures.rows made in
    let p = c.in_ok-plan.ensures.plan (object_result two_regions) (asked (g.S.Store.rows c.add_object.new.store) c.in_ok-store.regions made) in
    let written = inner_written (g.S.Store.rows c.apply_write.new.store) c.apply_write.new.regions c.in_ok-plan.plan c.in_ok-plan.ensures.target c.in_ok-plan.ensures.key c.in_ok-plan.ensures.value p (c.apply_write.ensures.counts (object_result two_regions) d p) in
    (with_inner.rows, (near_edges with_inner, may_count (g.S.Store.rows c.apply_write.new.store) c.apply_write.new.regions with_inner written))

pub returns : goal.returns
returns g c =
    let made = c.in_ok-add_object.ensures.made two_regions well_two c.in_ok-store.ensures refl in
    let d = local_domain (g.S.Store.rows c.add_object.new.store) (g.S.Store.rows c.plan_write.new.store) c.in_ok-store.regions c.plan_write.ensures.rows made in
    let p = c.in_ok-plan.ensures.plan (object_result two_regions) (asked (g.S.Store.rows c.add_object.new.store) c.in_ok-store.regions made) in
    let written = inner_written (g.S.Store.rows c.apply_write.new.store) c.apply_write.new.regions c.in_ok-plan.plan c.in_ok-plan.ensures.target c.in_ok-plan.ensures.key c.in_ok-plan.ensures.value p (c.apply_write.ensures.counts (object_result two_regions) d p) in
    inner_borrowed (g.S.Store.rows c.apply_write.new.store) (g.S.Store.rows c.count_borrow.new.store) c.apply_write.new.regions c.count_borrow.new.regions written
    (c.count_borrow.ensures.counted with_inner.rows (near_edges with_inner) Slot (may_count (g.S.Store.rows c.apply_write.new.store) c.apply_write.new.regions with_inner written) refl)
