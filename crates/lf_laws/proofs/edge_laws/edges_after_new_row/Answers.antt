use Rattle.lf_laws.proofs.Edges.SlotEdges.{all_row, near_row}
use Rattle.lf_laws.proofs.edge_laws.edges_after_new_row.Goals as goal

pub returns-clause-near : goal.returns-clause-near
returns-clause-near c = near_row

pub returns-clause-all : goal.returns-clause-all
returns-clause-all c = all_row
