use Rattle.lf_laws.proofs.Losses.ContentNoticed.{content_noticed, made_noticed}
use Rattle.lf_laws.proofs.loss_laws.contents_are_noticed.Goals as goal

pub returns-clause-written : goal.returns-clause-written
returns-clause-written c s d v u old new at before stay = content_noticed s d v u at old new before stay

pub returns-clause-made : goal.returns-clause-made
returns-clause-made c = made_noticed
