use Rattle.lf_laws.proofs.Losses.LossesNoticed.{kept_notices, losses_noticed, noticed_watched}
use Rattle.lf_laws.proofs.Losses.WriteNoticed.{slot_borrows, target_watches, write_noticed}
use Rattle.lf_laws.proofs.loss_laws.losses_and_writes_are_noticed.Goals as goal

pub returns-clause-none : goal.returns-clause-none
returns-clause-none c s w t all = kept_notices s t all w

pub returns-clause-watched : goal.returns-clause-watched
returns-clause-watched c = noticed_watched

pub returns-clause-lost : goal.returns-clause-lost
returns-clause-lost c = losses_noticed

pub returns-clause-written : goal.returns-clause-written
returns-clause-written c s x k v w u t may = write_noticed s t x k v may w u

pub returns-clause-named : goal.returns-clause-named
returns-clause-named c s x k v w t may = slot_borrows s t x k v may w

pub returns-clause-suspected : goal.returns-clause-suspected
returns-clause-suspected c s x k v w t may = target_watches s t x k v may w
