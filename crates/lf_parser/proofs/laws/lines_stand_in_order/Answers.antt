use Rattle.lf_parser.proofs.Order.ScriptLinesInOrder.{lines_in_order, read_lines_in_order}
use Rattle.lf_parser.proofs.laws.lines_stand_in_order.Goals as goal

pub returns : goal.returns
returns c = record { derived = lines_in_order; read = read_lines_in_order }
