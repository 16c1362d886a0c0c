use Rattle.lf_laws.proofs.Edges.FieldEdges.{all_take, near_take}
use Rattle.lf_laws.proofs.edge_laws.edges_after_take.Goals as goal

pub returns-clause-near : goal.returns-clause-near
returns-clause-near c = near_take

pub returns-clause-all : goal.returns-clause-all
returns-clause-all c = all_take
