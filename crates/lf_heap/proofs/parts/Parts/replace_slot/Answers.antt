use Rattle.std.proofs.Common.{ap, refl, subst, sym, length, ◌<◌, ◌∙◌, ◌≡◌}
use Rattle.lf_base.specs.EdgeLists.{near_edges}
use Rattle.std.specs.List.{slice_set}
use Rattle.lf_base.specs.Edges.{Slot}
use Rattle.lf_base.specs.PlainChanges.{slot_at, with_slot, with_slot_at}
use Rattle.lf_base.specs.WellFormed.{SlotMayHold}
use Rattle.lf_heap.specs.Following.{Follows}
use Rattle.lf_heap.specs.Heaps.{Domain, HasParts, heap_state}
use Rattle.lf_heap.proofs.Slots.SlotLosses.{MayHold}
use Rattle.lf_heap.proofs.Slots.SlotParts.{put_can_lose, put_reached, put_steps, slot_may_count}
use Rattle.lf_heap.proofs.Slots.SlotPlaces.{set_is_put, slot_found}
use Rattle.lf_heap.proofs.States.StoredStates.{Reached}
use Rattle.lf_heap.proofs.parts.Parts.replace_slot.Goals as goal

pub count_borrow-requires-clause-may : goal.count_borrow-requires-clause-may
count_borrow-requires-clause-may g c κs within =
    let h = c.self.inside in
    let rows = g.S.Store.rows h.store in
    let s = heap_state h.birth h.objects h.contents h.frozen rows h.slots.items in
    (s.rows, (near_edges s, slot_may_count rows h.regions h.cells s c.self.invariant))

pub lose_borrow-requires-clause-may : goal.lose_borrow-requires-clause-may
lose_borrow-requires-clause-may g c κs within =
    let h = c.self.inside in
    let rows = g.S.Store.rows h.store in
    let s = heap_state h.birth h.objects h.contents h.frozen rows h.slots.items in
    let view : s ≡ c.args.self.now.state = ap (λ (d : Domain). d.state) c.self.view_is in
    let there : c.args.at < length h.slots.items = subst (λ l. c.args.at < length l) (sym (ap (λ (d : Domain). d.state.slots) c.self.view_is)) c.requires.there in
    let old : slot_at h.slots.items c.args.at ≡ c.index-old.result.now = slot_found h.slots.items c.args.at c.index-old.result.now there c.index-old.ensures in
    let may : MayHold s c.args.v = λ u e. subst (λ t. SlotMayHold t u) (sym view) (c.requires.may u e) in
    let counts = c.count_borrow.ensures.counted s.rows (near_edges s) Slot (slot_may_count rows h.regions h.cells s c.self.invariant) refl in
    let next = g.S.Store.rows c.count_borrow.new.store in
    let table = c.count_borrow.new.regions in
    (with_slot s c.args.v, (with_slot_at s c.args.at c.args.v, (Slot, (put_can_lose rows h.regions h.cells s c.self.invariant next table c.args.v counts may c.args.at there c.index-old.result.now old c.args.work.now c.requires.room, refl))))

after : (g : _) (c : goal.After-lose_borrow g)
    → Reached (g.S.Store.rows c.lose_borrow.new.store) c.lose_borrow.new.regions c.self.inside.cells
    (with_slot_at (heap_state c.self.inside.birth c.self.inside.objects c.self.inside.contents c.self.inside.frozen (g.S.Store.rows c.self.inside.store) c.self.inside.slots.items) c.args.at c.args.v)
after g c =
    let h = c.self.inside in
    let rows = g.S.Store.rows h.store in
    let s = heap_state h.birth h.objects h.contents h.frozen rows h.slots.items in
    let view : s ≡ c.args.self.now.state = ap (λ (d : Domain). d.state) c.self.view_is in
    let there : c.args.at < length h.slots.items = subst (λ l. c.args.at < length l) (sym (ap (λ (d : Domain). d.state.slots) c.self.view_is)) c.requires.there in
    let old : slot_at h.slots.items c.args.at ≡ c.index-old.result.now = slot_found h.slots.items c.args.at c.index-old.result.now there c.index-old.ensures in
    let may : MayHold s c.args.v = λ u e. subst (λ t. SlotMayHold t u) (sym view) (c.requires.may u e) in
    let counts = c.count_borrow.ensures.counted s.rows (near_edges s) Slot (slot_may_count rows h.regions h.cells s c.self.invariant) refl in
    let next = g.S.Store.rows c.count_borrow.new.store in
    let table = c.count_borrow.new.regions in
    let can = put_can_lose rows h.regions h.cells s c.self.invariant next table c.args.v counts may c.args.at there c.index-old.result.now old c.args.work.now c.requires.room in
    put_reached rows h.regions h.cells s c.self.invariant next table c.args.v counts may c.args.at there c.index-old.result.now old (g.S.Store.rows c.lose_borrow.new.store) c.lose_borrow.new.regions
    (c.lose_borrow.ensures.counted (with_slot s c.args.v) (with_slot_at s c.args.at c.args.v) Slot can refl)

pub invariant_of-self : goal.invariant_of-self
invariant_of-self g c =
    let h = c.self.inside in
    let last = g.S.Store.rows c.lose_borrow.new.store in
    subst (λ items. HasParts last c.lose_borrow.new.regions h.cells (heap_state h.birth h.objects h.contents h.frozen last items)) (sym (set_is_put h.slots.items c.args.at c.args.v)) (after g c).parts

pub returns-clause-state : goal.returns-clause-state
returns-clause-state g c =
    let h = c.self.inside in
    ap (heap_state h.birth h.objects h.contents h.frozen (g.S.Store.rows c.lose_borrow.new.store)) (set_is_put h.slots.items c.args.at c.args.v) ∙ (after g c).is
    ∙ ap (λ (d : Domain). with_slot_at d.state c.args.at c.args.v) c.self.view_is

pub returns-clause-follows : goal.returns-clause-follows
returns-clause-follows g c =
    let h = c.self.inside in
    let rows = g.S.Store.rows h.store in
    let s = heap_state h.birth h.objects h.contents h.frozen rows h.slots.items in
    let view : s ≡ c.args.self.now.state = ap (λ (d : Domain). d.state) c.self.view_is in
    let there : c.args.at < length h.slots.items = subst (λ l. c.args.at < length l) (sym (ap (λ (d : Domain). d.state.slots) c.self.view_is)) c.requires.there in
    let old : slot_at h.slots.items c.args.at ≡ c.index-old.result.now = slot_found h.slots.items c.args.at c.index-old.result.now there c.index-old.ensures in
    let may : MayHold s c.args.v = λ u e. subst (λ t. SlotMayHold t u) (sym view) (c.requires.may u e) in
    let counts = c.count_borrow.ensures.counted s.rows (near_edges s) Slot (slot_may_count rows h.regions h.cells s c.self.invariant) refl in
    let next = g.S.Store.rows c.count_borrow.new.store in
    let table = c.count_borrow.new.regions in
    let can = put_can_lose rows h.regions h.cells s c.self.invariant next table c.args.v counts may c.args.at there c.index-old.result.now old c.args.work.now c.requires.room in
    let last = g.S.Store.rows c.lose_borrow.new.store in
    let is = ap (heap_state h.birth h.objects h.contents h.frozen last) (set_is_put h.slots.items c.args.at c.args.v) ∙ (after g c).is in
    let end = heap_state h.birth h.objects h.contents h.frozen last (slice_set h.slots.items c.args.at c.args.v) in
    subst (λ u. Follows u end c.args.work.now c.lose_borrow.new.work 1) view
    (subst (λ u. Follows s u c.args.work.now c.lose_borrow.new.work 1) (sym is)
    (put_steps rows h.regions h.cells s c.self.invariant next table c.args.v counts may c.args.at there c.index-old.result.now old c.args.work.now c.lose_borrow.new.work c.requires.room
    (c.lose_borrow.ensures.noticed (with_slot s c.args.v) (with_slot_at s c.args.at c.args.v) Slot can refl) c.lose_borrow.ensures.capacity c.lose_borrow.ensures.one))
