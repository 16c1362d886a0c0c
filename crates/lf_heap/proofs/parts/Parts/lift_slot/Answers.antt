use Rattle.std.proofs.Common.{None, ap, arith, length, subst, sym, [], ◌++◌, ◌<◌, ◌∙◌, ◌∷◌, ◌≡◌}
use Rattle.lf_base.specs.PlainChanges.{slot_at, with_slot, with_slot_at}
use Rattle.lf_heap.specs.Heaps.{Domain, HasParts, heap_state}
use Rattle.lf_heap.proofs.Slots.SlotParts.{lift_reached}
use Rattle.lf_heap.proofs.Slots.SlotPlaces.{set_is_put, slot_found}
use Rattle.lf_heap.proofs.States.StoredStates.{Reached}
use Rattle.lf_heap.proofs.parts.Parts.lift_slot.Goals as goal

after : (g : _) (c : goal.After-push_reserved g)
    → Reached (g.S.Store.rows c.self.inside.store) c.self.inside.regions c.self.inside.cells
    (with_slot (with_slot_at (heap_state c.self.inside.birth c.self.inside.objects c.self.inside.contents c.self.inside.frozen (g.S.Store.rows c.self.inside.store) c.self.inside.slots.items) c.args.at None) (slot_at c.self.inside.slots.items c.args.at))
after g c =
    let h = c.self.inside in
    let rows = g.S.Store.rows h.store in
    let s = heap_state h.birth h.objects h.contents h.frozen rows h.slots.items in
    let view = ap (λ (d : Domain). d.state.slots) c.self.view_is in
    lift_reached rows h.regions h.cells s c.self.invariant c.args.at (subst (λ l. c.args.at < length l) (sym view) c.requires.there)
    (omega (arith, ap (λ (d : Domain). d.spare) c.self.view_is, c.requires.room))

items_are : (g : _) (c : goal.After-push_reserved g) → c.push_reserved.new.self.items
    ≡ (with_slot (with_slot_at (heap_state c.self.inside.birth c.self.inside.objects c.self.inside.contents c.self.inside.frozen (g.S.Store.rows c.self.inside.store) c.self.inside.slots.items) c.args.at None) (slot_at c.self.inside.slots.items c.args.at)).slots
items_are g c =
    let h = c.self.inside in
    let view = ap (λ (d : Domain). d.state.slots) c.self.view_is in
    let v : slot_at h.slots.items c.args.at ≡ c.index-v.result.now = slot_found h.slots.items c.args.at c.index-v.result.now (subst (λ l. c.args.at < length l) (sym view) c.requires.there) c.index-v.ensures in
    c.push_reserved.ensures.items ∙ ap (λ l. l ++ c.index-v.result.now ∷ []) (set_is_put h.slots.items c.args.at None) ∙ ap (λ w. (with_slot_at (heap_state h.birth h.objects h.contents h.frozen (g.S.Store.rows h.store) h.slots.items) c.args.at None).slots ++ w ∷ []) (sym v)

pub invariant_of-self : goal.invariant_of-self
invariant_of-self g c =
    let h = c.self.inside in
    let rows = g.S.Store.rows h.store in
    subst (λ items. HasParts rows h.regions h.cells (heap_state h.birth h.objects h.contents h.frozen rows items)) (sym (items_are g c)) (after g c).parts

pub returns-clause-state : goal.returns-clause-state
returns-clause-state g c =
    let h = c.self.inside in
    ap (heap_state h.birth h.objects h.contents h.frozen (g.S.Store.rows h.store)) (items_are g c) ∙ (after g c).is
    ∙ ap (λ (d : Domain). with_slot (with_slot_at d.state c.args.at None) (slot_at d.state.slots c.args.at)) c.self.view_is
