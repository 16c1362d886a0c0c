use Rattle.std.proofs.Common.{Some, ap, arith, length, subst, sym, ◌+◌, ◌-◌, ◌∙◌, ◌≡◌, ◌≤◌}
use Rattle.lf_base.specs.HeapCalls.{Done, take_change}
use Rattle.lf_base.specs.Kept.{kept}
use Rattle.lf_base.specs.Names.{key_of}
use Rattle.lf_base.specs.Operands.{operand}
use Rattle.lf_base.specs.PlainState.{State}
use Rattle.lf_heap.specs.Heaps.{Domain}
use Rattle.lf_heap.proofs.Calls.OperandSlots.{became, one_less_length, take_done, slots_left}
use Rattle.lf_heap.proofs.Calls.Rests.{notices_then}
use Rattle.lf_heap.proofs.Slots.SlotPlaces.{put_length}
use Rattle.lf_heap.proofs.States.Steps.{steps_follow}
use Rattle.lf_heap.proofs.Calls.SlotsAfter.{slots_taken}
use Rattle.lf_heap.proofs.heap.Heap.take.Goals as goal

pub drop_slot-requires-clause-there : goal.drop_slot-requires-clause-there
drop_slot-requires-clause-there g c κs within =
    let two : 2 ≤ length c.take_out.new.self.state.slots = omega (arith, c.requires, ap (λ (d : Domain). length d.state.slots) c.self.view_is, ap length (ap (λ (t : State). t.slots) c.in_ok-v.ensures.state ∙ slots_left c.self.inside.parts.state c.operand-target.result (key_of c.operand-key.result))) in
    omega (arith, two, ap (λ (t : State). length t.slots) c.replace_slot.ensures.state, put_length c.take_out.new.self.state.slots (c.len-at.result - 2) (Some c.in_ok-v.v))

pub settle-requires-clause-noticed : goal.settle-requires-clause-noticed
settle-requires-clause-noticed g c κs within =
    let s = c.self.inside.parts.state in
    let work = c.self.inside.work in
    let first = steps_follow s c.take_out.new.self.state c.replace_slot.new.self.state work c.take_out.new.work c.replace_slot.new.work 1 1 c.in_ok-v.ensures.follows c.replace_slot.ensures.follows in
    let both = steps_follow s c.replace_slot.new.self.state c.drop_slot.new.self.state work c.replace_slot.new.work c.drop_slot.new.work 2 1 first c.drop_slot.ensures.follows in
    notices_then s work c.self.inside.rows c.self.invariant c.drop_slot.new.self.state c.drop_slot.new.work 3 (omega arith) both

pub returns-clause-change : goal.returns-clause-change
returns-clause-change g c =
    let s = c.self.inside.parts.state in
    let two : 2 ≤ length c.take_out.new.self.state.slots = omega (arith, c.requires, ap (λ (d : Domain). length d.state.slots) c.self.view_is, ap length (ap (λ (t : State). t.slots) c.in_ok-v.ensures.state ∙ slots_left c.self.inside.parts.state c.operand-target.result (key_of c.operand-key.result))) in
    let at : c.len-at.result - 2 + 2 ≡ length c.take_out.new.self.state.slots = omega (arith, two, c.len-at.ensures) in
    let last = became c.take_out.new.self.state c.replace_slot.new.self.state c.drop_slot.new.self.state (c.len-at.result - 2) (Some c.in_ok-v.v) c.replace_slot.ensures.state at c.drop_slot.ensures.state in
    subst (λ (d : Domain). take_change d.state ≡ Done c.settle.new.self.state) c.self.view_is
    (take_done s c.take_out.new.self.state c.settle.new.self.state c.operand-target.result c.operand-key.result c.in_ok-v.v (c.operand-target.ensures ∙ ap (λ (d : Domain). operand d.state 1) (sym c.self.view_is))
    (c.operand-key.ensures ∙ ap (λ (d : Domain). operand d.state 0) (sym c.self.view_is)) c.in_ok-v.ensures.answer c.in_ok-v.ensures.value c.in_ok-v.ensures.state (c.settle.ensures.state ∙ ap kept last))

pub returns-clause-room : goal.returns-clause-room
returns-clause-room g c =
    let two : 2 ≤ length c.take_out.new.self.state.slots = omega (arith, c.requires, ap (λ (d : Domain). length d.state.slots) c.self.view_is, ap length (ap (λ (t : State). t.slots) c.in_ok-v.ensures.state ∙ slots_left c.self.inside.parts.state c.operand-target.result (key_of c.operand-key.result))) in
    let many = ap (λ (t : State). length t.slots) c.replace_slot.ensures.state ∙ put_length c.take_out.new.self.state.slots (c.len-at.result - 2) (Some c.in_ok-v.v) in
    omega (
      arith,
      c.settle.ensures.room,
      c.drop_slot.ensures.room,
      c.replace_slot.ensures.room,
      ap (λ (t : State). length t.slots) c.settle.ensures.state,
      ap (λ (t : State). length t.slots) c.drop_slot.ensures.state,
      one_less_length c.replace_slot.new.self.state (omega (arith, two, many)),
      many,
      ap (λ (d : Domain). d.spare) c.self.view_is,
      ap (λ (d : Domain). length d.state.slots) c.self.view_is,
      c.in_ok-v.ensures.room,
      ap length (ap (λ (t : State). t.slots) c.in_ok-v.ensures.state ∙ slots_left c.self.inside.parts.state c.operand-target.result (key_of c.operand-key.result)),
    )

pub returns-clause-slots : goal.returns-clause-slots
returns-clause-slots g c = slots_taken c.args.self.now.state c.settle.new.self.state c.requires (returns-clause-change g c)
