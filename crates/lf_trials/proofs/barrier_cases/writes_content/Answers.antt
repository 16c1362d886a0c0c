use Rattle.std.proofs.Common.{inr, refl}
use Rattle.lf_trials.specs.TwoRegions.{two_regions}
use Rattle.lf_trials.proofs.BarrierStates.{two_domain}
use Rattle.lf_trials.proofs.barrier_cases.writes_content.Goals as goal

pub check_content-checked-requires-clause-domain : goal.check_content-checked-requires-clause-domain
check_content-checked-requires-clause-domain g c κs within = (two_regions, two_domain (g.S.Store.rows c.in_ok-store.store) c.in_ok-store.regions c.in_ok-store.ensures)

pub apply_content-requires-clause-checked : goal.apply_content-requires-clause-checked
apply_content-requires-clause-checked g c κs within =
    (two_regions, (two_domain (g.S.Store.rows c.in_ok-store.store) c.in_ok-store.regions c.in_ok-store.ensures, record { was = inr (refl, refl); allowed = refl }))
