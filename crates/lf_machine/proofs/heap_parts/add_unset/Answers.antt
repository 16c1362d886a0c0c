use Rattle.std.proofs.Common.{arith, ◌∙◌}
use Rattle.lf_machine.proofs.Operands.SlotsInTurn.{unset_next}
use Rattle.lf_machine.proofs.heap_parts.add_unset.Goals as goal

pub loop-preserved : goal.loop-preserved
loop-preserved g c = record {
  rest = unset_next c.args.count c.loop.counter c.loop.heap.state c.push.new.self.state c.loop-test.true c.push.ensures.state ∙ c.loop.invariant.rest;
  room = omega (arith, c.push.ensures.slots, c.push.ensures.room, c.loop.invariant.room);
}
