use Rattle.lf_laws.proofs.Dropping.EndState.{end_again, end_closes, end_keeps}
use Rattle.lf_laws.proofs.laws.end_keeps.Goals as goal

pub returns-clause-well_formed : goal.returns-clause-well_formed
returns-clause-well_formed c = end_keeps

pub returns-clause-closed : goal.returns-clause-closed
returns-clause-closed c = end_closes

pub returns-clause-all_stay : goal.returns-clause-all_stay
returns-clause-all_stay c = end_again
