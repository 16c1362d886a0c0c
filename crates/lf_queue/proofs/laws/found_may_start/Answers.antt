use Rattle.lf_queue.proofs.ReadyLaws.{may_start}
use Rattle.lf_queue.proofs.laws.found_may_start.Goals as goal

pub returns : goal.returns
returns c = may_start
