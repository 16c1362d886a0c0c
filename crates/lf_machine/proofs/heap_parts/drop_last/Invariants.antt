use Rattle.std.proofs.Common.{length, ◌+◌, ◌-◌, ◌≡◌}
use Rattle.lf_code.specs.Actions.{pops}
use Rattle.lf_heap.specs.Heaps.{SameRoom}
use Rattle.lf_machine.proofs.heap_parts.drop_last.Given as goal

abbrev pub invariant-loop : goal.invariant-loop
invariant-loop g l = record {
  rest : pops (l.count - l.counter) l.heap.state ≡ pops l.count l.initial.heap.state;
  room : SameRoom l.initial.heap l.heap;
  slots : length l.heap.state.slots + l.counter ≡ length l.initial.heap.state.slots;
}
