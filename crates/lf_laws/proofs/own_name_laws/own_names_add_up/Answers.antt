use Rattle.lf_laws.proofs.OwnNames.KnownCowns.{adds_then}
use Rattle.lf_laws.proofs.own_name_laws.own_names_add_up.Goals as goal

pub returns : goal.returns
returns c = adds_then
