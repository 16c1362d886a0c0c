use Rattle.lf_laws.proofs.Changes.Merging.{dissolve_values, merge_values}
use Rattle.lf_laws.proofs.laws.merge_keeps.Goals as goal

pub returns-clause-merged : goal.returns-clause-merged
returns-clause-merged c = merge_values

pub returns-clause-dissolved : goal.returns-clause-dissolved
returns-clause-dissolved c = dissolve_values
