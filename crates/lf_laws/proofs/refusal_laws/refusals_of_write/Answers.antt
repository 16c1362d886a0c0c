use Rattle.lf_laws.proofs.Judging.Refusals.{not_refused, refused_cycle, refused_inside, refused_second}
use Rattle.lf_laws.proofs.refusal_laws.refusals_of_write.Goals as goal

pub returns-clause-inside : goal.returns-clause-inside
returns-clause-inside c = refused_inside

pub returns-clause-second : goal.returns-clause-second
returns-clause-second c = refused_second

pub returns-clause-cycle : goal.returns-clause-cycle
returns-clause-cycle c = refused_cycle

pub returns-clause-none : goal.returns-clause-none
returns-clause-none c = not_refused
