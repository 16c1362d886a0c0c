use Rattle.lf_laws.proofs.Edges.FieldEdges.{all_put, near_put}
use Rattle.lf_laws.proofs.edge_laws.edges_put_after_take.Goals as goal

pub returns-clause-near : goal.returns-clause-near
returns-clause-near c s x k v row t h = near_put s x k row t h v

pub returns-clause-all : goal.returns-clause-all
returns-clause-all c s x k v row t h = all_put s x k row t h v
