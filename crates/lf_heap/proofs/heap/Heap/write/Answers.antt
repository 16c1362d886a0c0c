use Rattle.std.proofs.Common.{ap, arith, subst, sym, ◌∙◌}
use Rattle.lf_base.specs.WellFormed.{SlotMayHold}
use Rattle.lf_base.specs.Operands.{operand}
use Rattle.lf_heap.specs.Heaps.{Domain}
use Rattle.lf_heap.proofs.Calls.OperandSlots.{operand_in_slot, operand_may_be_held}
use Rattle.lf_heap.proofs.Calls.Rests.{notices_then}
use Rattle.lf_heap.proofs.States.Steps.{steps_follow}
use Rattle.lf_heap.proofs.heap.Heap.write.Goals as goal

pub put_in-requires-clause-named : goal.put_in-requires-clause-named
put_in-requires-clause-named g c κs within o e = operand_in_slot c.self.inside.parts.state 2 o (ap (λ (d : Domain). operand d.state 2) c.self.view_is ∙ sym c.operand-target.ensures ∙ e)

pub put_in-requires-clause-may : goal.put_in-requires-clause-may
put_in-requires-clause-may g c κs within =
    let s = c.self.inside.parts.state in
    subst (SlotMayHold s) (ap (λ (d : Domain). operand d.state 0) c.self.view_is ∙ sym c.operand-v.ensures) (operand_may_be_held s (c.self.invariant.settled).well_formed 0)

pub settle-requires-clause-noticed : goal.settle-requires-clause-noticed
settle-requires-clause-noticed g c κs within =
    let s = c.self.inside.parts.state in
    let work = c.self.inside.work in
    let first = steps_follow s c.put_in.new.self.state c.drop_slot.new.self.state work c.put_in.new.work c.drop_slot.new.work 1 1 c.in_ok-put_in.ensures.follows c.drop_slot.ensures.follows in
    let second = steps_follow s c.drop_slot.new.self.state c.drop_slot-2.new.self.state work c.drop_slot.new.work c.drop_slot-2.new.work 2 1 first c.drop_slot-2.ensures.follows in
    let third = steps_follow s c.drop_slot-2.new.self.state c.drop_slot-3.new.self.state work c.drop_slot-2.new.work c.drop_slot-3.new.work 3 1 second c.drop_slot-3.ensures.follows in
    notices_then s work c.self.inside.rows c.self.invariant c.drop_slot-3.new.self.state c.drop_slot-3.new.work 4 (omega arith) third
