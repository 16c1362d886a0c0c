use Rattle.lf_laws.proofs.Edges.NamedTargets.{all_to_names, near_to_names, to_names}
use Rattle.lf_laws.proofs.count_laws.edges_to_named_rows.Goals as goal

pub returns-clause-any : goal.returns-clause-any
returns-clause-any c = to_names

pub returns-clause-near : goal.returns-clause-near
returns-clause-near c = near_to_names

pub returns-clause-all : goal.returns-clause-all
returns-clause-all c = all_to_names
