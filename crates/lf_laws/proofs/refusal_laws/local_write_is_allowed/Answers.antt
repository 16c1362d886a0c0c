use Rattle.lf_laws.proofs.Judging.LocalWrites.{local_allowed}
use Rattle.lf_laws.proofs.refusal_laws.local_write_is_allowed.Goals as goal

pub returns : goal.returns
returns c s x k v t = local_allowed s t x k v
