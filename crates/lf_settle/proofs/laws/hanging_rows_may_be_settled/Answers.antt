use Rattle.lf_settle.proofs.Rounds.AllSuspects.{as_many_stored, hanging_can_settle}
use Rattle.lf_settle.proofs.laws.hanging_rows_may_be_settled.Goals as goal

pub returns-clause-hanging : goal.returns-clause-hanging
returns-clause-hanging c rows regions work s counted hang room = hanging_can_settle rows regions work s counted hang room

pub returns-clause-stored_state : goal.returns-clause-stored_state
returns-clause-stored_state c rows regions s counts = as_many_stored rows regions s counts
