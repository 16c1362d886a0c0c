use Rattle.lf_laws.proofs.Owners.OwnersGoRound.{none_above, round_none}
use Rattle.lf_laws.proofs.laws.owners_go_round.Goals as goal

pub returns : goal.returns
returns c s = (none_above s, round_none s)
