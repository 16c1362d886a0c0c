use Rattle.lf_laws.proofs.Edges.ClosedEdges.{all_close, near_close}
use Rattle.lf_laws.proofs.edge_laws.edges_after_close.Goals as goal

pub returns-clause-near : goal.returns-clause-near
returns-clause-near c = near_close

pub returns-clause-all : goal.returns-clause-all
returns-clause-all c = all_close
