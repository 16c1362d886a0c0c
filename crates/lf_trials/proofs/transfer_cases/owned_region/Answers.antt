use Rattle.lf_trials.specs.TwoRegions.{two_regions}
use Rattle.lf_trials.proofs.BarrierStates.{two_domain}
use Rattle.lf_trials.proofs.OwnedRegion.{child_asked, child_owned, still}
use Rattle.lf_trials.proofs.transfer_cases.owned_region.Goals as goal

pub plan_write-requires-clause-asked : goal.plan_write-requires-clause-asked
plan_write-requires-clause-asked g c κs within = (two_regions, child_asked (g.S.Store.rows c.in_ok-store.store) c.in_ok-store.regions c.in_ok-store.ensures)

pub apply_write-requires-clause-planned : goal.apply_write-requires-clause-planned
apply_write-requires-clause-planned g c κs within =
    let rows = g.S.Store.rows c.in_ok-store.store in (
      two_regions,
      (
        still rows (g.S.Store.rows c.plan_write.new.store) c.in_ok-store.regions two_regions c.plan_write.ensures.rows (two_domain rows c.in_ok-store.regions c.in_ok-store.ensures),
        c.in_ok-plan.ensures.plan two_regions (child_asked rows c.in_ok-store.regions c.in_ok-store.ensures),
      ),
    )

pub returns : goal.returns
returns g c =
    let rows = g.S.Store.rows c.in_ok-store.store in
    let d = still rows (g.S.Store.rows c.plan_write.new.store) c.in_ok-store.regions two_regions c.plan_write.ensures.rows (two_domain rows c.in_ok-store.regions c.in_ok-store.ensures) in
    let p = c.in_ok-plan.ensures.plan two_regions (child_asked rows c.in_ok-store.regions c.in_ok-store.ensures) in
    child_owned (g.S.Store.rows c.apply_write.new.store) c.apply_write.new.regions c.in_ok-plan.plan c.in_ok-plan.ensures.target c.in_ok-plan.ensures.key c.in_ok-plan.ensures.value p (c.apply_write.ensures.counts two_regions d p)
