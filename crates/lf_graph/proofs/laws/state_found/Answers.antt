use Rattle.lf_base.specs.Names.{same_owner}
use Rattle.lf_graph.proofs.Stores.StateRows.{filtered_store, found_of}
use Rattle.lf_graph.proofs.laws.state_found.Goals as goal

pub returns-clause-found : goal.returns-clause-found
returns-clause-found c rows of o a = found_of rows of o a

pub returns-clause-under : goal.returns-clause-under
returns-clause-under c rows of w a = (filtered_store rows of a (λ r. same_owner r.owner w)).rise
