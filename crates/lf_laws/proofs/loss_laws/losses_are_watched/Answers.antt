use Rattle.lf_laws.proofs.Losses.LossesFollow.{loses_nothing, loses_then}
use Rattle.lf_laws.proofs.Losses.LossesNoticed.{losses_watched}
use Rattle.lf_laws.proofs.loss_laws.losses_are_watched.Goals as goal

pub returns-clause-none : goal.returns-clause-none
returns-clause-none c = loses_nothing

pub returns-clause-follow : goal.returns-clause-follow
returns-clause-follow c = loses_then

pub returns-clause-watched : goal.returns-clause-watched
returns-clause-watched c = losses_watched
