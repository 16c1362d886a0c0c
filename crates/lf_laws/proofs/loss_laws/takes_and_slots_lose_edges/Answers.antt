use Rattle.lf_laws.proofs.Losses.LostEdges.{close_loses, content_loses, slots_lose, take_loses, unset_loses}
use Rattle.lf_laws.proofs.loss_laws.takes_and_slots_lose_edges.Goals as goal

pub returns-clause-taken : goal.returns-clause-taken
returns-clause-taken c = take_loses

pub returns-clause-unset : goal.returns-clause-unset
returns-clause-unset c = unset_loses

pub returns-clause-fewer : goal.returns-clause-fewer
returns-clause-fewer c = slots_lose

pub returns-clause-content : goal.returns-clause-content
returns-clause-content c = content_loses

pub returns-clause-closed : goal.returns-clause-closed
returns-clause-closed c = close_loses
