use Rattle.lf_laws.proofs.Owners.PathsOfSets.{move_set_path}
use Rattle.lf_laws.proofs.laws.move_set_follows_paths.Goals as goal

pub returns : goal.returns
returns c = move_set_path
