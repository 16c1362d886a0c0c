use Rattle.std.proofs.Common.{ap, refl, subst, sym, ◌∙◌}
use Rattle.lf_base.specs.Edges.{Slot}
use Rattle.lf_base.specs.Operands.{without_last}
use Rattle.lf_base.specs.PlainChanges.{with_slots}
use Rattle.lf_heap.specs.Following.{Follows}
use Rattle.lf_heap.specs.Heaps.{Domain, heap_state}
use Rattle.lf_heap.proofs.Slots.SlotParts.{drop_can_lose, drop_reached, drop_steps}
use Rattle.lf_heap.proofs.Slots.SlotPlaces.{last_goes}
use Rattle.lf_heap.proofs.States.StoredStates.{Reached}
use Rattle.lf_heap.proofs.parts.Parts.drop_slot.Goals as goal

pub lose_borrow-requires-clause-may : goal.lose_borrow-requires-clause-may
lose_borrow-requires-clause-may g c κs within =
    let h = c.self.inside in
    let rows = g.S.Store.rows h.store in
    let s = heap_state h.birth h.objects h.contents h.frozen rows h.slots.items in
    (s, (with_slots s c.pop.new.self.items, (Slot, (drop_can_lose rows h.regions h.cells s c.self.invariant c.pop.new.self.items c.in-Some.old c.in-Some.ensures.items c.args.work.now c.requires.room, refl))))

after : (g : _) (c : goal.After-lose_borrow g)
    → Reached (g.S.Store.rows c.lose_borrow.new.store) c.lose_borrow.new.regions c.self.inside.cells
    (with_slots (heap_state c.self.inside.birth c.self.inside.objects c.self.inside.contents c.self.inside.frozen (g.S.Store.rows c.self.inside.store) c.self.inside.slots.items) c.pop.new.self.items)
after g c =
    let h = c.self.inside in
    let rows = g.S.Store.rows h.store in
    let s = heap_state h.birth h.objects h.contents h.frozen rows h.slots.items in
    let t = with_slots s c.pop.new.self.items in
    drop_reached rows h.regions h.cells s c.self.invariant c.pop.new.self.items c.in-Some.old c.in-Some.ensures.items (g.S.Store.rows c.lose_borrow.new.store) c.lose_borrow.new.regions
    (c.lose_borrow.ensures.counted s t Slot (drop_can_lose rows h.regions h.cells s c.self.invariant c.pop.new.self.items c.in-Some.old c.in-Some.ensures.items c.args.work.now c.requires.room) refl)

pub invariant_of-self : goal.invariant_of-self
invariant_of-self g c = (after g c).parts

pub returns-in-Some-clause-state : goal.returns-in-Some-clause-state
returns-in-Some-clause-state g c =
    let h = c.self.inside in
    let s = heap_state h.birth h.objects h.contents h.frozen (g.S.Store.rows h.store) h.slots.items in
    (after g c).is ∙ sym (last_goes s c.pop.new.self.items c.in-Some.old c.in-Some.ensures.items) ∙ ap (λ (d : Domain). without_last 1 d.state) c.self.view_is

pub returns-in-Some-clause-follows : goal.returns-in-Some-clause-follows
returns-in-Some-clause-follows g c =
    let h = c.self.inside in
    let rows = g.S.Store.rows h.store in
    let s = heap_state h.birth h.objects h.contents h.frozen rows h.slots.items in
    let t = with_slots s c.pop.new.self.items in
    let can = drop_can_lose rows h.regions h.cells s c.self.invariant c.pop.new.self.items c.in-Some.old c.in-Some.ensures.items c.args.work.now c.requires.room in
    let end = heap_state h.birth h.objects h.contents h.frozen (g.S.Store.rows c.lose_borrow.new.store) c.pop.new.self.items in
    subst (λ u. Follows u end c.args.work.now c.lose_borrow.new.work 1) (ap (λ (d : Domain). d.state) c.self.view_is)
    (subst (λ u. Follows s u c.args.work.now c.lose_borrow.new.work 1) (sym (after g c).is)
    (drop_steps rows h.regions h.cells s c.self.invariant c.pop.new.self.items c.in-Some.old c.in-Some.ensures.items c.args.work.now c.lose_borrow.new.work
    (c.lose_borrow.ensures.noticed s t Slot can refl) c.lose_borrow.ensures.capacity c.lose_borrow.ensures.one))
