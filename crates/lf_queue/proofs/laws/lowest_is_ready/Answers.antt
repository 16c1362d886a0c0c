use Rattle.lf_queue.proofs.ReadyLaws.{lowest}
use Rattle.lf_queue.proofs.laws.lowest_is_ready.Goals as goal

pub returns : goal.returns
returns c = lowest
