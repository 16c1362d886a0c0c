use Rattle.std.proofs.Common.{arith, sym, take, ◌∙◌}
use Rattle.lf_code.specs.RunCode.{first_slots}
use Rattle.lf_machine.proofs.Starting.{found_member, held_behind, one_added}
use Rattle.lf_machine.proofs.heap_parts.add_variables.Goals as goal

pub push-requires-clause-may : goal.push-requires-clause-may
push-requires-clause-may g c κs within u e =
    let s = c.args.heap.now.state in
    held_behind s c.loop-at.heap.state (take c.loop-at.at (first_slots c.args.values.now c.args.vars)) u c.loop-at.invariant.added
    (c.requires.may u (found_member c.args.values.now c.loop-at.at u (sym c.get.ensures ∙ sym c.copied.ensures ∙ e)))

pub loop-at-preserved : goal.loop-at-preserved
loop-at-preserved g c = record {
  added = one_added c.args.values.now c.args.vars c.requires.few c.args.heap.now.state c.loop-at.heap.state c.push.new.self.state c.loop-at.at c.copied.result
      c.loop-at.invariant.added c.at_rest.ensures c.push.ensures.state (c.copied.ensures ∙ c.get.ensures) c.loop-at-test.true;
  room = omega (arith, c.loop-at.invariant.room, c.push.ensures.slots, c.push.ensures.room);
}
