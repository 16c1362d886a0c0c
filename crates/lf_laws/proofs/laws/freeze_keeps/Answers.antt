use Rattle.lf_laws.proofs.Changes.Freezing.{freeze_keeps}
use Rattle.lf_laws.proofs.laws.freeze_keeps.Goals as goal

pub returns : goal.returns
returns c = freeze_keeps
