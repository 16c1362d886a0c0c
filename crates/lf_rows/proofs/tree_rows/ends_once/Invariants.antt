use Rattle.std.proofs.Common.{length}
use Rattle.lf_parser.specs.Refusals.{EndsOnce}
use Rattle.lf_rows.proofs.tree_rows.ends_once.Given as goal

abbrev pub invariant-loop-left : goal.invariant-loop-left
invariant-loop-left l = EndsOnce l.left → EndsOnce l.tokens

abbrev pub decreases-loop-left : goal.decreases-loop-left
decreases-loop-left l = length l.left
