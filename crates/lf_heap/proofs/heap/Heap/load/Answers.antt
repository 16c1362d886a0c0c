use Rattle.std.proofs.Common.{ap, not, subst, sym, ◌∙◌, ◌≡◌}
use Rattle.lf_base.specs.HeapCalls.{Done, load_change, unset_refusal}
use Rattle.lf_base.specs.PlainChanges.{slot_at, with_slot}
use Rattle.lf_heap.specs.Heaps.{Domain, IsAtRest}
use Rattle.lf_heap.proofs.Calls.Rests.{done, push_rests, pushed_is, set_is}
use Rattle.lf_heap.proofs.Slots.SlotLosses.{held_value}
use Rattle.lf_heap.proofs.Slots.SlotPlaces.{slot_member}
use Rattle.lf_heap.proofs.Calls.SlotsAfter.{slots_loaded}
use Rattle.lf_heap.proofs.heap.Heap.load.Goals as goal

pub add_slot-requires-clause-may : goal.add_slot-requires-clause-may
add_slot-requires-clause-may g c κs within u e =
    let s = c.self.inside.parts.state in
    held_value s (c.self.invariant.settled).well_formed u (slot_member s.slots c.args.at u (sym c.slot-v.ensures ∙ e))

pub invariant_of-self : goal.invariant_of-self
invariant_of-self g c =
    let s = c.self.inside.parts.state in
    subst (λ t. IsAtRest t c.self.inside.work c.self.inside.loose c.self.inside.rows) (sym c.add_slot.ensures.state)
    (push_rests c.self.inside.parts.state c.self.inside.work c.self.inside.rows c.self.invariant c.slot-v.result (λ u e. held_value s (c.self.invariant.settled).well_formed u (slot_member s.slots c.args.at u (sym c.slot-v.ensures ∙ e))))

pub returns-clause-change : goal.returns-clause-change
returns-clause-change g c =
    let s = c.self.inside.parts.state in
    let w = slot_at s.slots c.args.at in
    subst (λ (d : Domain). load_change c.args.at d.state ≡ Done c.add_slot.new.self.state) c.self.view_is
    (done (unset_refusal w) (with_slot s w) c.add_slot.new.self.state (ap unset_refusal (sym c.slot-v.ensures) ∙ set_is c.slot-v.result (c.is_none.ensures ∙ ap not c.if-is_none.false))
    (c.add_slot.ensures.state ∙ ap (with_slot s) c.slot-v.ensures ∙ pushed_is c.self.inside.parts.state c.self.inside.work c.self.inside.rows c.self.invariant w))

pub returns-clause-slots : goal.returns-clause-slots
returns-clause-slots g c = slots_loaded c.args.self.now.state c.add_slot.new.self.state c.args.at (returns-clause-change g c)
