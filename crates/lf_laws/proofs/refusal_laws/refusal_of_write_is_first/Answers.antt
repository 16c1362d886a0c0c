use Rattle.lf_laws.proofs.Judging.Refusals.{once_is, refusal_is}
use Rattle.lf_laws.proofs.refusal_laws.refusal_of_write_is_first.Goals as goal

pub returns-clause-once : goal.returns-clause-once
returns-clause-once c = once_is

pub returns-clause-first : goal.returns-clause-first
returns-clause-first c = refusal_is
