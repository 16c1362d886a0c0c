use Rattle.lf_laws.proofs.Judging.LocalWrites.{frozen_refused}
use Rattle.lf_laws.proofs.refusal_laws.frozen_write_is_refused.Goals as goal

pub returns : goal.returns
returns c = frozen_refused
