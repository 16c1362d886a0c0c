use Rattle.lf_laws.proofs.Losses.DroppedSets.{justified_most}
use Rattle.lf_laws.proofs.drop_laws.room_is_enough.Goals as goal

pub returns : goal.returns
returns c = justified_most
