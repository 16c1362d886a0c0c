use Rattle.lf_laws.proofs.KeptStates.CallsSettle.{new_cown_settles, new_object_settles, new_region_settles}
use Rattle.lf_laws.proofs.call_laws.makings_settle.Goals as goal

pub returns-clause-object : goal.returns-clause-object
returns-clause-object c = new_object_settles

pub returns-clause-region : goal.returns-clause-region
returns-clause-region c = new_region_settles

pub returns-clause-cown : goal.returns-clause-cown
returns-clause-cown c = new_cown_settles
