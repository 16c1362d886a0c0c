use Rattle.std.proofs.Common.{length}
use Rattle.lf_lexer.proofs.LexSteps.LevelSteps.{ClosingSoFar}
use Rattle.lf_lexer.proofs.indent.close_script.Given as goal

abbrev pub invariant-loop-levels : goal.invariant-loop-levels
invariant-loop-levels l = ClosingSoFar l.size l.last l.fn.levels l.levels l.fn.lexed l.lexed

abbrev pub decreases-loop-levels : goal.decreases-loop-levels
decreases-loop-levels l = length l.levels
