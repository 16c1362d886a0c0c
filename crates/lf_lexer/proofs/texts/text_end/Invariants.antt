use Rattle.std.proofs.Common.{◌≡◌, ◌+◌, length}
use Rattle.lf_lexer.specs.Front.{text_end}
use Rattle.lf_lexer.specs.LineRest.{line_rest}
use Rattle.lf_lexer.proofs.NextPiece.TextEnds.{TextSoFar}
use Rattle.lf_lexer.proofs.texts.text_end.Given as goal

abbrev pub invariant-loop-offset : goal.invariant-loop-offset
invariant-loop-offset l = record {
  long : l.at + length l.rest ≡ length l.bytes;
  same : text_end l.at (line_rest l.rest) ≡ text_end 0 (line_rest l.bytes);
  means : TextSoFar l.bytes l.at l.rest l.text.items;
}

abbrev pub decreases-loop-offset : goal.decreases-loop-offset
decreases-loop-offset l = length l.rest
