use Rattle.lf_parcel.proofs.Trees.TreesOut.{parts_are_packed}
use Rattle.lf_parcel.proofs.laws.parts_go_out_whole.Goals as goal

pub returns : goal.returns
returns c = parts_are_packed
