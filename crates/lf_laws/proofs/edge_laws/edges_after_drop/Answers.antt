use Rattle.lf_laws.proofs.Edges.RowsGone.{all_kept, all_without, near_kept, near_without}
use Rattle.lf_laws.proofs.edge_laws.edges_after_drop.Goals as goal

pub returns-clause-near : goal.returns-clause-near
returns-clause-near c = near_without

pub returns-clause-all : goal.returns-clause-all
returns-clause-all c = all_without

pub returns-clause-near_kept : goal.returns-clause-near_kept
returns-clause-near_kept c = near_kept

pub returns-clause-all_kept : goal.returns-clause-all_kept
returns-clause-all_kept c = all_kept
