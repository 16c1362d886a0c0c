use Rattle.lf_parser.proofs.Order.ScriptNamesInOrder.{names_in_order, read_names_in_order}
use Rattle.lf_parser.proofs.laws.names_stand_in_order.Goals as goal

pub returns : goal.returns
returns c = record { derived = names_in_order; read = read_names_in_order }
