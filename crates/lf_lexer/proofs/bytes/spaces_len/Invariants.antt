use Rattle.std.proofs.Common.{◌≡◌, ◌+◌, drop}
use Rattle.lf_lexer.specs.SourceLines.{indentation}
use Rattle.lf_lexer.proofs.bytes.spaces_len.Given as goal

abbrev pub invariant-loop-i : goal.invariant-loop-i
invariant-loop-i l = l.i + indentation (drop l.i l.bytes) ≡ indentation l.bytes
