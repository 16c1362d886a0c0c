use Rattle.std.proofs.Common.{ap, arith, length, subst, sym, ◌+◌, ◌-◌, ◌∙◌, ◌≡◌, ◌≤◌}
use Rattle.lf_base.specs.HeapCalls.{Done, new_cown_change}
use Rattle.lf_base.specs.Kept.{kept}
use Rattle.lf_base.specs.Operands.{operand}
use Rattle.lf_base.specs.PlainState.{State}
use Rattle.lf_heap.specs.Heaps.{Domain}
use Rattle.lf_heap.proofs.Calls.OperandSlots.{cown_done}
use Rattle.lf_heap.proofs.Calls.Rests.{notices_then}
use Rattle.lf_heap.proofs.Calls.SlotsAfter.{slots_with_cown}
use Rattle.lf_heap.proofs.States.Steps.{steps_follow}
use Rattle.lf_heap.proofs.heap.Heap.new_cown.Goals as goal

pub settle-requires-clause-noticed : goal.settle-requires-clause-noticed
settle-requires-clause-noticed g c κs within =
    let s = c.self.inside.parts.state in
    let work = c.self.inside.work in
    let both = steps_follow s c.add_cown.new.self.state c.replace_slot.new.self.state work c.add_cown.new.work c.replace_slot.new.work 0 1 c.in_ok-cown.ensures.follows c.replace_slot.ensures.follows in
    notices_then s work c.self.inside.rows c.self.invariant c.replace_slot.new.self.state c.replace_slot.new.work 1 (omega arith) both

pub returns-clause-change : goal.returns-clause-change
returns-clause-change g c =
    let s = c.self.inside.parts.state in
    let there : 1 ≤ length s.slots = subst (λ (d : Domain). 1 ≤ length d.state.slots) (sym c.self.view_is) c.requires in
    let at : c.len-last.result - 1 + 1 ≡ length s.slots = omega (arith, there, c.len-last.ensures, ap (λ (t : State). length t.slots) c.in_ok-cown.ensures.state) in
    subst (λ (d : Domain). new_cown_change d.state ≡ Done c.settle.new.self.state) c.self.view_is
    (cown_done s c.add_cown.new.self.state c.settle.new.self.state c.operand-v.result c.in_ok-cown.cown (c.len-last.result - 1) (c.operand-v.ensures ∙ ap (λ (d : Domain). operand d.state 0) (sym c.self.view_is))
    (sym c.in_ok-cown.ensures.answer) c.in_ok-cown.ensures.name c.in_ok-cown.ensures.state at (c.settle.ensures.state ∙ ap kept c.replace_slot.ensures.state))

pub returns-clause-slots : goal.returns-clause-slots
returns-clause-slots g c = slots_with_cown c.args.self.now.state c.settle.new.self.state c.requires (returns-clause-change g c)

pub returns-clause-room : goal.returns-clause-room
returns-clause-room g c =
    omega (
      arith,
      ap (λ (d : Domain). length d.state.slots) c.self.view_is,
      ap (λ (d : Domain). d.spare) c.self.view_is,
      c.in_ok-cown.ensures.room,
      c.replace_slot.ensures.room,
      c.settle.ensures.room,
      returns-clause-slots g c,
    )
