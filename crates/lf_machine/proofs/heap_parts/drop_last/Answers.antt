use Rattle.std.proofs.Common.{arith, ◌∙◌}
use Rattle.lf_machine.proofs.Operands.SlotsInTurn.{pops_next}
use Rattle.lf_machine.proofs.heap_parts.drop_last.Goals as goal

pub loop-preserved : goal.loop-preserved
loop-preserved g c = record {
  rest = pops_next c.args.count c.loop.counter c.loop.heap.state c.pop.new.self.state c.loop-test.true c.pop.ensures.state ∙ c.loop.invariant.rest;
  room = c.pop.ensures.room ∙ c.loop.invariant.room;
  slots = omega (arith, c.pop.ensures.slots, c.loop.invariant.slots);
}
