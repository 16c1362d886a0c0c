use Rattle.lf_laws.proofs.Losses.DroppedSets.{bridge_idle, inner_idle, local_idle, no_bridge_idle, nothing_idle}
use Rattle.lf_laws.proofs.drop_laws.counts_let_stay.Goals as goal

pub returns-clause-local : goal.returns-clause-local
returns-clause-local c s o t = local_idle s t o

pub returns-clause-inner : goal.returns-clause-inner
returns-clause-inner c s o r t = inner_idle s t o r

pub returns-clause-bridge : goal.returns-clause-bridge
returns-clause-bridge c s r t = bridge_idle s t r

pub returns-clause-no_row : goal.returns-clause-no_row
returns-clause-no_row c s o t = nothing_idle s t o

pub returns-clause-no_region : goal.returns-clause-no_region
returns-clause-no_region c s r t = no_bridge_idle s t r
