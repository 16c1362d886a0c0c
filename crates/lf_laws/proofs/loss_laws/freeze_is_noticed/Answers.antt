use Rattle.lf_laws.proofs.Losses.FreezeNoticed.{freeze_noticed}
use Rattle.lf_laws.proofs.loss_laws.freeze_is_noticed.Goals as goal

pub returns : goal.returns
returns c s v old new t before stay bare = freeze_noticed s v t old new before stay bare
