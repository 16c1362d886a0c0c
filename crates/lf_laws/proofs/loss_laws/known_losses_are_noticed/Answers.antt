use Rattle.lf_laws.proofs.Losses.LossesNoticed.{known_noticed}
use Rattle.lf_laws.proofs.Losses.ManyLosses.{edges_known}
use Rattle.lf_laws.proofs.loss_laws.known_losses_are_noticed.Goals as goal

pub returns-clause-known : goal.returns-clause-known
returns-clause-known c s t lost old new loses = edges_known s t lost loses old new

pub returns-clause-noticed : goal.returns-clause-noticed
returns-clause-noticed c = known_noticed
