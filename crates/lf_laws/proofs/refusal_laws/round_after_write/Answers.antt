use Rattle.lf_laws.proofs.Judging.OwnersRound.{round_by_touched}
use Rattle.lf_laws.proofs.refusal_laws.round_after_write.Goals as goal

pub returns : goal.returns
returns c = round_by_touched
