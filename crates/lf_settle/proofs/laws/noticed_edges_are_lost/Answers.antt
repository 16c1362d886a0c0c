use Rattle.lf_settle.proofs.Counting.EdgeNoticed.{value_loses}
use Rattle.lf_settle.proofs.laws.noticed_edges_are_lost.Goals as goal

pub returns : goal.returns
returns c s t from v old new p n = value_loses s t from v old new p n
