use Rattle.lf_laws.proofs.Changes.ReadValues.{read_may_be_held}
use Rattle.lf_laws.proofs.call_laws.read_values_may_be_held.Goals as goal

pub returns : goal.returns
returns c = read_may_be_held
