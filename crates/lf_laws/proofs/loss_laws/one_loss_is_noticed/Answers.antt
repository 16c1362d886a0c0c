use Rattle.lf_laws.proofs.Losses.OneLoss.{no_row, none_noticed, nothing_lost, one_noticed}
use Rattle.lf_laws.proofs.loss_laws.one_loss_is_noticed.Goals as goal

pub returns-clause-last : goal.returns-clause-last
returns-clause-last c s t e old w well lost = one_noticed s t e lost well old w

pub returns-clause-still : goal.returns-clause-still
returns-clause-still c s t e old well lost = none_noticed s t e lost well old

pub returns-clause-elsewhere : goal.returns-clause-elsewhere
returns-clause-elsewhere c s t e old well lost = no_row s t e lost well old

pub returns-clause-none : goal.returns-clause-none
returns-clause-none c s t old lost = nothing_lost s t lost old
