use Rattle.lf_code.proofs.DroppingOnce.PartsAtOnce.{binary_once, close_once, enter_once, leave_once, printed_once, unary_once}
use Rattle.lf_code.proofs.laws.dropping_once.Goals as goal

pub returns-clause-unary : goal.returns-clause-unary
returns-clause-unary c = unary_once

pub returns-clause-binary : goal.returns-clause-binary
returns-clause-binary c = binary_once

pub returns-clause-printed : goal.returns-clause-printed
returns-clause-printed c = printed_once

pub returns-clause-entered : goal.returns-clause-entered
returns-clause-entered c = enter_once

pub returns-clause-left : goal.returns-clause-left
returns-clause-left c = leave_once

pub returns-clause-closed : goal.returns-clause-closed
returns-clause-closed c at s h = close_once at s h.well_formed
