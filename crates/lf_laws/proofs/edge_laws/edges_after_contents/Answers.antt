use Rattle.lf_laws.proofs.Edges.SlotEdges.{all_content, all_made, near_content, near_made}
use Rattle.lf_laws.proofs.edge_laws.edges_after_contents.Goals as goal

pub returns-clause-near_written : goal.returns-clause-near_written
returns-clause-near_written c = near_content

pub returns-clause-all_written : goal.returns-clause-all_written
returns-clause-all_written c = all_content

pub returns-clause-near_made : goal.returns-clause-near_made
returns-clause-near_made c = near_made

pub returns-clause-all_made : goal.returns-clause-all_made
returns-clause-all_made c = all_made
