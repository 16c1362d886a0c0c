use Rattle.std.proofs.Common.{take, ◌≡◌}
use Rattle.lf_code.specs.Actions.{operands}
use Rattle.lf_code.specs.Spelling.{spelled_all}
use Rattle.lf_machine.proofs.heap_parts.spelled_operands.Given as goal

abbrev pub invariant-loop-at : goal.invariant-loop-at
invariant-loop-at g l = l.line.items ≡ spelled_all l.texts (take l.at (operands l.count l.heap.state))
