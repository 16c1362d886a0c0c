use Rattle.lf_laws.proofs.Changes.FirstState.{first_whole}
use Rattle.lf_laws.proofs.laws.first_state_is_well_formed.Goals as goal

pub returns : goal.returns
returns c = first_whole
