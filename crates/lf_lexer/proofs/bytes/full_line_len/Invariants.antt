use Rattle.std.proofs.Common.{◌≡◌, ◌+◌, drop}
use Rattle.lf_lexer.specs.SourceLines.{full_line_len}
use Rattle.lf_lexer.proofs.bytes.full_line_len.Given as goal

abbrev pub invariant-loop-i : goal.invariant-loop-i
invariant-loop-i l = l.i + full_line_len (drop l.i l.bytes) ≡ full_line_len l.bytes
