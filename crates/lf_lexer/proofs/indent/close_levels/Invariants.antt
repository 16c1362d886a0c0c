use Rattle.std.proofs.Common.{length}
use Rattle.lf_lexer.proofs.LexSteps.LevelSteps.{ClosedSoFar}
use Rattle.lf_lexer.proofs.indent.close_levels.Given as goal

abbrev pub invariant-loop-line : goal.invariant-loop-line
invariant-loop-line l = ClosedSoFar l.line l.indent l.fn.levels l.levels l.fn.lexed l.lexed

abbrev pub decreases-loop-line : goal.decreases-loop-line
decreases-loop-line l = length l.levels
