use Rattle.lf_laws.proofs.KeptStates.CallsSettle.{read_settles, take_settles, write_settles}
use Rattle.lf_laws.proofs.call_laws.accesses_settle.Goals as goal

pub returns-clause-read : goal.returns-clause-read
returns-clause-read c = read_settles

pub returns-clause-write : goal.returns-clause-write
returns-clause-write c = write_settles

pub returns-clause-take : goal.returns-clause-take
returns-clause-take c = take_settles
