use Rattle.lf_parcel.proofs.Beginnings.CountsTogether.{begins_stored}
use Rattle.lf_parcel.proofs.laws.parts_make_the_beginning.Goals as goal

pub returns : goal.returns
returns c = begins_stored
