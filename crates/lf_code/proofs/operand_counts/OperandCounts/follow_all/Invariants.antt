use Rattle.std.proofs.Common.{[]}
use Rattle.lf_code.specs.OperandWalk.{OperandWalk, left_over}
use Rattle.lf_code.proofs.operand_counts.OperandCounts.follow_all.Given as goal

abbrev pub invariant-loop-at : goal.invariant-loop-at
invariant-loop-at l = OperandWalk l.list l.self.counts.items l.self.left.items []

abbrev pub decreases-loop-at : goal.decreases-loop-at
decreases-loop-at l = left_over l.self.counts.items l.self.left.items
