use Rattle.lf_laws.proofs.Losses.DissolveNoticed.{dissolve_noticed}
use Rattle.lf_laws.proofs.loss_laws.dissolve_is_noticed.Goals as goal

pub returns : goal.returns
returns c s r w t whole bridge named before = dissolve_noticed s r t whole bridge named w before
