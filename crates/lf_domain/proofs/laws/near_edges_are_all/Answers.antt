use Rattle.lf_domain.proofs.NearCounts.{from_all, from_near}
use Rattle.lf_domain.proofs.laws.near_edges_are_all.Goals as goal

pub returns : goal.returns
returns c rows regions s well = (from_near s well rows regions, from_all s well rows regions)
