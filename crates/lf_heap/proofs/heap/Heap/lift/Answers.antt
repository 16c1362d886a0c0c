use Rattle.std.proofs.Common.{None, [], ap, arith, length, length-append, not, subst, sym, ◌∙◌, ◌∷◌, ◌≡◌}
use Rattle.lf_base.specs.HeapCalls.{Done, lift_change, unset_refusal}
use Rattle.lf_base.specs.PlainChanges.{put_slot, slot_at, with_slot, with_slot_at}
use Rattle.lf_base.specs.PlainState.{State}
use Rattle.lf_heap.specs.Heaps.{Domain, IsAtRest}
use Rattle.lf_heap.proofs.Calls.Rests.{done, lift_rests, lifted_is, set_is}
use Rattle.lf_heap.proofs.Slots.SlotPlaces.{put_length}
use Rattle.lf_heap.proofs.Calls.SlotsAfter.{slots_lifted}
use Rattle.lf_heap.proofs.heap.Heap.lift.Goals as goal

pub invariant_of-self : goal.invariant_of-self
invariant_of-self g c = subst (λ t. IsAtRest t c.self.inside.work c.self.inside.loose c.self.inside.rows) (sym c.lift_slot.ensures.state) (lift_rests c.self.inside.parts.state c.self.inside.work c.self.inside.rows c.self.invariant c.args.at)

pub returns-clause-change : goal.returns-clause-change
returns-clause-change g c =
    let s = c.self.inside.parts.state in
    let w = slot_at s.slots c.args.at in
    subst (λ (d : Domain). lift_change c.args.at d.state ≡ Done c.lift_slot.new.self.state) c.self.view_is
    (done (unset_refusal w) (with_slot (with_slot_at s c.args.at None) w) c.lift_slot.new.self.state (ap unset_refusal (sym c.slot.ensures) ∙ set_is c.slot.result (c.is_none.ensures ∙ ap not c.if-is_none.false))
    (c.lift_slot.ensures.state ∙ lifted_is c.self.inside.parts.state c.self.inside.work c.self.inside.rows c.self.invariant c.args.at))

pub returns-clause-room : goal.returns-clause-room
returns-clause-room g c =
    let xs = c.self.inside.parts.state.slots in
    omega (
      arith,
      c.lift_slot.ensures.room,
      ap (λ (t : State). length t.slots) c.lift_slot.ensures.state,
      put_length xs c.args.at None,
      length-append (put_slot xs c.args.at None) (slot_at xs c.args.at ∷ []),
      ap (λ (d : Domain). d.spare) c.self.view_is,
      ap (λ (d : Domain). length d.state.slots) c.self.view_is,
    )

pub returns-clause-slots : goal.returns-clause-slots
returns-clause-slots g c = slots_lifted c.args.self.now.state c.lift_slot.new.self.state c.args.at (returns-clause-change g c)
