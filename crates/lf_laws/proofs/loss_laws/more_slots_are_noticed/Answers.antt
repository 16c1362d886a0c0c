use Rattle.lf_laws.proofs.Losses.SlotsNoticed.{push_noticed, slots_noticed}
use Rattle.lf_laws.proofs.loss_laws.more_slots_are_noticed.Goals as goal

pub returns-clause-more : goal.returns-clause-more
returns-clause-more c = slots_noticed

pub returns-clause-pushed : goal.returns-clause-pushed
returns-clause-pushed c = push_noticed
