use Rattle.lf_laws.proofs.Owners.PathsOfSets.{below_path}
use Rattle.lf_laws.proofs.laws.below_follows_owners.Goals as goal

pub returns : goal.returns
returns c = below_path
