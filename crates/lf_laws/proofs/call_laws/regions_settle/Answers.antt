use Rattle.lf_laws.proofs.KeptStates.CallsSettle.{close_settles, dissolve_settles, frozen_settles, merge_settles}
use Rattle.lf_laws.proofs.call_laws.regions_settle.Goals as goal

pub returns-clause-frozen : goal.returns-clause-frozen
returns-clause-frozen c = frozen_settles

pub returns-clause-merged : goal.returns-clause-merged
returns-clause-merged c = merge_settles

pub returns-clause-dissolved : goal.returns-clause-dissolved
returns-clause-dissolved c = dissolve_settles

pub returns-clause-closed : goal.returns-clause-closed
returns-clause-closed c s at w = close_settles s w at
