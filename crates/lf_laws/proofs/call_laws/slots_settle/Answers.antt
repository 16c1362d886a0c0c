use Rattle.lf_laws.proofs.KeptStates.CallsSettle.{lift_settles, load_settles, popped_settles, pushed_settles, put_down_settles, unset_settles}
use Rattle.lf_laws.proofs.call_laws.slots_settle.Goals as goal

pub returns-clause-pushed : goal.returns-clause-pushed
returns-clause-pushed c s x w = pushed_settles s w x

pub returns-clause-popped : goal.returns-clause-popped
returns-clause-popped c = popped_settles

pub returns-clause-put : goal.returns-clause-put
returns-clause-put c s at w = put_down_settles s w at

pub returns-clause-load : goal.returns-clause-load
returns-clause-load c s at w = load_settles s w at

pub returns-clause-lift : goal.returns-clause-lift
returns-clause-lift c s at w = lift_settles s w at

pub returns-clause-unset : goal.returns-clause-unset
returns-clause-unset c s at w = unset_settles s w at
