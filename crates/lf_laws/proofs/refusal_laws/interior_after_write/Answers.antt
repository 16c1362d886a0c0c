use Rattle.lf_laws.proofs.Judging.InteriorShown.{interior_shown}
use Rattle.lf_laws.proofs.refusal_laws.interior_after_write.Goals as goal

pub returns : goal.returns
returns c = interior_shown
