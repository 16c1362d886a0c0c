use Rattle.lf_laws.proofs.Edges.SlotEdges.{all_fewer_slots, all_push, all_put_slot, all_slots, near_fewer_slots, near_push, near_put_slot, near_slots}
use Rattle.lf_laws.proofs.edge_laws.edges_after_slots.Goals as goal

pub returns-clause-near_others : goal.returns-clause-near_others
returns-clause-near_others c = near_slots

pub returns-clause-all_others : goal.returns-clause-all_others
returns-clause-all_others c = all_slots

pub returns-clause-near_more : goal.returns-clause-near_more
returns-clause-near_more c = near_push

pub returns-clause-all_more : goal.returns-clause-all_more
returns-clause-all_more c = all_push

pub returns-clause-near_replaced : goal.returns-clause-near_replaced
returns-clause-near_replaced c = near_put_slot

pub returns-clause-all_replaced : goal.returns-clause-all_replaced
returns-clause-all_replaced c = all_put_slot

pub returns-clause-near_fewer : goal.returns-clause-near_fewer
returns-clause-near_fewer c = near_fewer_slots

pub returns-clause-all_fewer : goal.returns-clause-all_fewer
returns-clause-all_fewer c = all_fewer_slots
