use Rattle.lf_base.proofs.NameLemmas.SameNames.{same_name_itself}
use Rattle.lf_laws.proofs.Losses.DroppedSets.{inner_can_go, local_can_go, region_can_go, region_spends}
use Rattle.lf_laws.proofs.drop_laws.counts_let_go.Goals as goal

pub returns-clause-local : goal.returns-clause-local
returns-clause-local c s o t = local_can_go s t o

pub returns-clause-inner : goal.returns-clause-inner
returns-clause-inner c s o r t = inner_can_go s t o r

pub returns-clause-region : goal.returns-clause-region
returns-clause-region c s r t = region_can_go s t r

pub returns-clause-row_spent : goal.returns-clause-row_spent
returns-clause-row_spent c = same_name_itself

pub returns-clause-region_spent : goal.returns-clause-region_spent
returns-clause-region_spent c s o r t = region_spends s t o r
