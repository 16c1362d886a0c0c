use Rattle.lf_laws.proofs.Owners.PathsOfSets.{freeze_closed, freeze_least, freeze_within}
use Rattle.lf_laws.proofs.laws.freeze_set_is_least.Goals as goal

pub returns-clause-among : goal.returns-clause-among
returns-clause-among c = freeze_within

pub returns-clause-closed : goal.returns-clause-closed
returns-clause-closed c = freeze_closed

pub returns-clause-least : goal.returns-clause-least
returns-clause-least c = freeze_least
