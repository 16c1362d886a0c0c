use Rattle.lf_laws.proofs.Edges.RowsGone.{all_freeze, frozen_freeze, near_freeze}
use Rattle.lf_laws.proofs.edge_laws.edges_after_freeze.Goals as goal

pub returns-clause-near : goal.returns-clause-near
returns-clause-near c = near_freeze

pub returns-clause-frozen : goal.returns-clause-frozen
returns-clause-frozen c = frozen_freeze

pub returns-clause-all : goal.returns-clause-all
returns-clause-all c = all_freeze
