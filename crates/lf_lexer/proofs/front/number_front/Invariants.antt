use Rattle.lf_lexer.proofs.NextPiece.Digits.{DigitsSoFar}
use Rattle.lf_lexer.proofs.front.number_front.Given as goal

abbrev pub invariant-loop-i : goal.invariant-loop-i
invariant-loop-i l = DigitsSoFar l.bytes l.i l.value
