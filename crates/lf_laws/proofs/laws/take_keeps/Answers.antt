use Rattle.lf_laws.proofs.Changes.FewerFields.{take_keeps}
use Rattle.lf_laws.proofs.laws.take_keeps.Goals as goal

pub returns : goal.returns
returns c = take_keeps
