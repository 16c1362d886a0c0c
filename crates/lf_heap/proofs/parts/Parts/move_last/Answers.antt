use Rattle.std.proofs.Common.{ap, arith, length, length-append, refl, subst, sym, [], ◌<◌, ◌∙◌, ◌∷◌, ◌≡◌}
use Rattle.std.specs.List.{slice_set}
use Rattle.lf_base.specs.Edges.{Slot}
use Rattle.lf_base.specs.Operands.{slot_below, without_last}
use Rattle.lf_base.specs.PlainChanges.{put_slot, slot_at, with_slot_at, with_slots}
use Rattle.lf_heap.specs.Following.{Follows}
use Rattle.lf_heap.specs.Heaps.{Domain, HasParts, heap_state}
use Rattle.lf_heap.proofs.Slots.SlotParts.{move_can_lose, move_reached, move_steps, moved_is}
use Rattle.lf_heap.proofs.Slots.SlotPlaces.{set_is_put, slot_found}
use Rattle.lf_heap.proofs.States.StoredStates.{Reached}
use Rattle.lf_heap.proofs.parts.Parts.move_last.Goals as goal

pub lose_borrow-requires-clause-may : goal.lose_borrow-requires-clause-may
lose_borrow-requires-clause-may g c κs within =
    let h = c.self.inside in
    let rows = g.S.Store.rows h.store in
    let s = heap_state h.birth h.objects h.contents h.frozen rows h.slots.items in
    let xs = c.pop.new.self.items in
    let is = c.in-Some.ensures.items in
    let there : c.args.at < length xs = omega (arith, c.requires.below, ap (λ (d : Domain). length d.state.slots) c.self.view_is, ap length is, length-append xs (c.in-Some.v ∷ [])) in
    let old : slot_at xs c.args.at ≡ c.index-old.result.now = slot_found xs c.args.at c.index-old.result.now there c.index-old.ensures in
    let can = move_can_lose rows h.regions h.cells s c.self.invariant xs c.in-Some.v is c.args.at there c.index-old.result.now old c.args.work.now c.requires.room in
    (s, (with_slots s (put_slot xs c.args.at c.in-Some.v), (Slot, (can, refl))))

after : (g : _) (c : goal.After-lose_borrow g)
    → Reached (g.S.Store.rows c.lose_borrow.new.store) c.lose_borrow.new.regions c.self.inside.cells
    (with_slots (heap_state c.self.inside.birth c.self.inside.objects c.self.inside.contents c.self.inside.frozen (g.S.Store.rows c.self.inside.store) c.self.inside.slots.items) (put_slot c.pop.new.self.items c.args.at c.in-Some.v))
after g c =
    let h = c.self.inside in
    let rows = g.S.Store.rows h.store in
    let s = heap_state h.birth h.objects h.contents h.frozen rows h.slots.items in
    let xs = c.pop.new.self.items in
    let is = c.in-Some.ensures.items in
    let there : c.args.at < length xs = omega (arith, c.requires.below, ap (λ (d : Domain). length d.state.slots) c.self.view_is, ap length is, length-append xs (c.in-Some.v ∷ [])) in
    let old : slot_at xs c.args.at ≡ c.index-old.result.now = slot_found xs c.args.at c.index-old.result.now there c.index-old.ensures in
    let can = move_can_lose rows h.regions h.cells s c.self.invariant xs c.in-Some.v is c.args.at there c.index-old.result.now old c.args.work.now c.requires.room in
    move_reached rows h.regions h.cells s c.self.invariant xs c.in-Some.v is c.args.at there c.index-old.result.now old (g.S.Store.rows c.lose_borrow.new.store) c.lose_borrow.new.regions
    (c.lose_borrow.ensures.counted s (with_slots s (put_slot xs c.args.at c.in-Some.v)) Slot can refl)

pub invariant_of-self : goal.invariant_of-self
invariant_of-self g c =
    let h = c.self.inside in
    let last = g.S.Store.rows c.lose_borrow.new.store in
    subst (λ items. HasParts last c.lose_borrow.new.regions h.cells (heap_state h.birth h.objects h.contents h.frozen last items)) (sym (set_is_put c.pop.new.self.items c.args.at c.in-Some.v)) (after g c).parts

pub returns-in-Some-clause-state : goal.returns-in-Some-clause-state
returns-in-Some-clause-state g c =
    let h = c.self.inside in
    let rows = g.S.Store.rows h.store in
    let s = heap_state h.birth h.objects h.contents h.frozen rows h.slots.items in
    let xs = c.pop.new.self.items in
    let is = c.in-Some.ensures.items in
    let there : c.args.at < length xs = omega (arith, c.requires.below, ap (λ (d : Domain). length d.state.slots) c.self.view_is, ap length is, length-append xs (c.in-Some.v ∷ [])) in
    let old : slot_at xs c.args.at ≡ c.index-old.result.now = slot_found xs c.args.at c.index-old.result.now there c.index-old.ensures in
    let can = move_can_lose rows h.regions h.cells s c.self.invariant xs c.in-Some.v is c.args.at there c.index-old.result.now old c.args.work.now c.requires.room in
    ap (heap_state h.birth h.objects h.contents h.frozen (g.S.Store.rows c.lose_borrow.new.store)) (set_is_put xs c.args.at c.in-Some.v) ∙ (after g c).is
    ∙ sym (moved_is rows h.regions h.cells s c.self.invariant xs c.in-Some.v is c.args.at there c.index-old.result.now old)
    ∙ ap (λ (d : Domain). with_slot_at (without_last 1 d.state) c.args.at (slot_below d.state 0)) c.self.view_is

pub returns-in-Some-clause-follows : goal.returns-in-Some-clause-follows
returns-in-Some-clause-follows g c =
    let h = c.self.inside in
    let rows = g.S.Store.rows h.store in
    let s = heap_state h.birth h.objects h.contents h.frozen rows h.slots.items in
    let xs = c.pop.new.self.items in
    let is = c.in-Some.ensures.items in
    let there : c.args.at < length xs = omega (arith, c.requires.below, ap (λ (d : Domain). length d.state.slots) c.self.view_is, ap length is, length-append xs (c.in-Some.v ∷ [])) in
    let old : slot_at xs c.args.at ≡ c.index-old.result.now = slot_found xs c.args.at c.index-old.result.now there c.index-old.ensures in
    let can = move_can_lose rows h.regions h.cells s c.self.invariant xs c.in-Some.v is c.args.at there c.index-old.result.now old c.args.work.now c.requires.room in
    let last = g.S.Store.rows c.lose_borrow.new.store in
    let reached = ap (heap_state h.birth h.objects h.contents h.frozen last) (set_is_put xs c.args.at c.in-Some.v) ∙ (after g c).is in
    let end = heap_state h.birth h.objects h.contents h.frozen last (slice_set xs c.args.at c.in-Some.v) in
    subst (λ u. Follows u end c.args.work.now c.lose_borrow.new.work 1) (ap (λ (d : Domain). d.state) c.self.view_is)
    (subst (λ u. Follows s u c.args.work.now c.lose_borrow.new.work 1) (sym reached)
    (move_steps rows h.regions h.cells s c.self.invariant xs c.in-Some.v is c.args.at there c.index-old.result.now old c.args.work.now c.lose_borrow.new.work
    (c.lose_borrow.ensures.noticed s (with_slots s (put_slot xs c.args.at c.in-Some.v)) Slot can refl) c.lose_borrow.ensures.capacity c.lose_borrow.ensures.one))
