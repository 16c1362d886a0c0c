use Rattle.lf_laws.proofs.Owners.PathsOfSets.{open_path}
use Rattle.lf_laws.proofs.laws.open_follows_owners.Goals as goal

pub returns : goal.returns
returns c = open_path
