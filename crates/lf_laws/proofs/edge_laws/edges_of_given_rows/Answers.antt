use Rattle.lf_laws.proofs.Edges.OwnerEdges.{all_region, all_relabel, near_region, near_relabel}
use Rattle.lf_laws.proofs.edge_laws.edges_of_given_rows.Goals as goal

pub returns-clause-near_named : goal.returns-clause-near_named
returns-clause-near_named c = near_relabel

pub returns-clause-all_named : goal.returns-clause-all_named
returns-clause-all_named c = all_relabel

pub returns-clause-near_region : goal.returns-clause-near_region
returns-clause-near_region c = near_region

pub returns-clause-all_region : goal.returns-clause-all_region
returns-clause-all_region c = all_region
