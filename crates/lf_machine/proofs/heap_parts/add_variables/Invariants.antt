use Rattle.std.proofs.Common.{take, ◌+◌, ◌≡◌, ◌≤◌}
use Rattle.lf_base.specs.PlainChanges.{with_slots}
use Rattle.lf_code.specs.RunCode.{first_slots}
use Rattle.lf_machine.proofs.heap_parts.add_variables.Given as goal

abbrev pub invariant-loop-at : goal.invariant-loop-at
invariant-loop-at g l = record {
  added : l.heap.state ≡ with_slots l.initial.heap.state (take l.at (first_slots l.values l.vars));
  room : l.vars ≤ l.heap.spare + l.at;
}
