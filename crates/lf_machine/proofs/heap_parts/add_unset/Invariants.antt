use Rattle.std.proofs.Common.{◌+◌, ◌-◌, ◌≡◌, ◌≤◌}
use Rattle.lf_code.specs.Actions.{unset_pushed}
use Rattle.lf_machine.proofs.heap_parts.add_unset.Given as goal

abbrev pub invariant-loop : goal.invariant-loop
invariant-loop g l = record {
  rest : unset_pushed (l.count - l.counter) l.heap.state ≡ unset_pushed l.count l.initial.heap.state;
  room : l.count ≤ l.heap.spare + l.counter;
}
