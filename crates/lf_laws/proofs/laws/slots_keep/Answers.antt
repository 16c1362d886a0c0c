use Rattle.lf_laws.proofs.Changes.SameOwners.{slots_keep, value_may_be_held}
use Rattle.lf_laws.proofs.laws.slots_keep.Goals as goal

pub returns-clause-values : goal.returns-clause-values
returns-clause-values c = value_may_be_held

pub returns-clause-keep : goal.returns-clause-keep
returns-clause-keep c = slots_keep
