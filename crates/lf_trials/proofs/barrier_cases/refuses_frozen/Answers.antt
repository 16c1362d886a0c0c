use Rattle.std.proofs.Common.{refl}
use Rattle.lf_trials.proofs.FrozenTarget.{frozen_asked, with_frozen}
use Rattle.lf_trials.proofs.barrier_cases.refuses_frozen.Goals as goal

pub plan_write-planned-requires-clause-asked : goal.plan_write-planned-requires-clause-asked
plan_write-planned-requires-clause-asked g c κs within = (with_frozen, frozen_asked (g.S.Store.rows c.in_ok-store.store) c.in_ok-regions.regions _ c.in_ok-store.ensures c.in_ok-regions.ensures refl refl)
