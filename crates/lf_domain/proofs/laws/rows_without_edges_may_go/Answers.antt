use Rattle.lf_domain.proofs.RemovedRow.{ended_counts, removed_counts}
use Rattle.lf_domain.proofs.laws.rows_without_edges_may_go.Goals as goal

pub returns-clause-row : goal.returns-clause-row
returns-clause-row c rows new regions of es o counts none plain = removed_counts rows regions of es counts o none plain new

pub returns-clause-bridge : goal.returns-clause-bridge
returns-clause-bridge c rows new regions of es o counts none = ended_counts rows regions of es counts o none new
