use Rattle.lf_core.proofs.Followed.{may_take}
use Rattle.lf_core.proofs.laws.found_may_be_taken.Goals as goal

pub returns : goal.returns
returns c = may_take
