use Rattle.std.proofs.Common.{◌≤◌}
use Rattle.lf_parser.proofs.expr.Expr.TheLaws.{the_size}
use Rattle.lf_parser.proofs.expr.Expr.+drop.Given as goal

abbrev pub decreases-drop : goal.decreases-drop
decreases-drop l = goal.size-drop l

abbrev pub invariant-loop-self : goal.invariant-loop-self
invariant-loop-self l = the_size l.self ≤ the_size l.fn.self
