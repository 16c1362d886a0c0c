use Rattle.std.proofs.Common.{◌≡◌, ◌+◌, ◌<◌, ◌≤◌, length}
use Rattle.lf_lexer.proofs.LexSteps.LineSteps.{LinesSoFar}
use Rattle.lf_lexer.proofs.script.lex_lines.Given as goal

abbrev pub invariant-loop-rest : goal.invariant-loop-rest
invariant-loop-rest l = record {
  room : l.line.start + length l.rest ≡ length l.bytes;
  number : l.line.number ≤ l.line.start + 1;
  last : l.last < l.line.number;
  so_far : LinesSoFar l.bytes l.fn.lexed l.lexed l.levels l.last l.line l.rest;
}

abbrev pub decreases-loop-rest : goal.decreases-loop-rest
decreases-loop-rest l = length l.rest
