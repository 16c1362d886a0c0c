use Rattle.std.proofs.Common.{◌≡◌, ◌+◌, ◌≤◌, length}
use Rattle.lf_lexer.specs.LineRest.{line_rest}
use Rattle.lf_lexer.proofs.LexSteps.PieceSteps.{PiecesSoFar}
use Rattle.lf_lexer.proofs.line.lex_pieces.Given as goal

abbrev pub invariant-loop-after : goal.invariant-loop-after
invariant-loop-after l = record {
  long : l.at + length (line_rest l.rest) ≡ l.indent + length (line_rest l.bytes);
  room : l.at + length l.rest ≡ l.indent + length l.bytes;
  begun : l.indent ≤ l.at;
  ended : l.end ≤ l.at;
  so_far : PiecesSoFar l.line l.indent (line_rest l.bytes) l.fn.lexed l.lexed l.at (line_rest l.rest) l.end;
}

abbrev pub decreases-loop-after : goal.decreases-loop-after
decreases-loop-after l = length l.rest
