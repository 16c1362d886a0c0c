use Rattle.lf_laws.proofs.Dropping.KeptState.{kept_again, well_formed_kept}
use Rattle.lf_laws.proofs.laws.kept_is_well_formed.Goals as goal

pub returns-clause-well_formed : goal.returns-clause-well_formed
returns-clause-well_formed c = well_formed_kept

pub returns-clause-all_stay : goal.returns-clause-all_stay
returns-clause-all_stay c = kept_again
