use Rattle.lf_trials.specs.OwnedRegion.{with_child}
use Rattle.lf_trials.proofs.transfer_cases.refuses_owned.Goals as goal

pub plan_dissolve-requires-clause-domain : goal.plan_dissolve-requires-clause-domain
plan_dissolve-requires-clause-domain g c κs within = (with_child, c.in_ok-store.ensures)
