use Rattle.lf_laws.proofs.MoreGiven.MoreWellFormed.{more_given}
use Rattle.lf_laws.proofs.more_given_laws.more_may_be_given.Goals as goal

pub returns : goal.returns
returns c = more_given
