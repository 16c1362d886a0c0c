use Rattle.std.proofs.Common.{sym}
use Rattle.lf_laws.proofs.Edges.FieldEdges.{all_write, near_write}
use Rattle.lf_laws.proofs.Edges.OwnerEdges.{all_written, near_written}
use Rattle.lf_laws.proofs.edge_laws.edges_after_write.Goals as goal

pub returns-clause-near : goal.returns-clause-near
returns-clause-near c s x k v row t h = near_write s x k row t h v

pub returns-clause-all : goal.returns-clause-all
returns-clause-all c s x k v row t h = all_write s x k row t h v

pub returns-clause-near_unmoved : goal.returns-clause-near_unmoved
returns-clause-near_unmoved c s x k v = sym (near_written s x k v)

pub returns-clause-all_unmoved : goal.returns-clause-all_unmoved
returns-clause-all_unmoved c s x k v = sym (all_written s x k v)
