use Rattle.lf_laws.proofs.Changes.FewerFields.{close_keeps}
use Rattle.lf_laws.proofs.laws.close_keeps.Goals as goal

pub returns : goal.returns
returns c = close_keeps
