use Rattle.lf_graph.proofs.Stores.RowOrder.{count_order, field_order}
use Rattle.lf_graph.proofs.laws.rows_stay_in_order.Goals as goal

pub returns-clause-field : goal.returns-clause-field
returns-clause-field c = field_order

pub returns-clause-count : goal.returns-clause-count
returns-clause-count c = count_order
