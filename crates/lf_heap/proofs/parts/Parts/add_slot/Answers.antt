use Rattle.std.proofs.Common.{[], ap, arith, length-append, subst, sym, ◌∙◌, ◌∷◌}
use Rattle.lf_base.specs.EdgeLists.{near_edges}
use Rattle.lf_base.specs.PlainChanges.{with_slot}
use Rattle.lf_base.specs.WellFormed.{SlotMayHold}
use Rattle.lf_heap.specs.Heaps.{Domain, HasParts, heap_state}
use Rattle.lf_heap.proofs.Slots.SlotParts.{pushed_reached, slot_may_count}
use Rattle.lf_heap.proofs.States.StoredStates.{Reached}
use Rattle.lf_heap.proofs.parts.Parts.add_slot.Goals as goal

pub count_alone-requires-clause-may : goal.count_alone-requires-clause-may
count_alone-requires-clause-may g c κs within =
    let h = c.self.inside in
    let rows = g.S.Store.rows h.store in
    let s = heap_state h.birth h.objects h.contents h.frozen rows h.slots.items in
    (s.rows, (near_edges s, slot_may_count rows h.regions h.cells s c.self.invariant))

after : (g : _) (c : goal.After-count_alone g)
    → Reached (g.S.Store.rows c.count_alone.new.store) c.count_alone.new.regions c.self.inside.cells
    (with_slot (heap_state c.self.inside.birth c.self.inside.objects c.self.inside.contents c.self.inside.frozen (g.S.Store.rows c.self.inside.store) c.self.inside.slots.items) c.args.v)
after g c =
    let h = c.self.inside in
    let rows = g.S.Store.rows h.store in
    let s = heap_state h.birth h.objects h.contents h.frozen rows h.slots.items in
    pushed_reached rows h.regions h.cells s c.self.invariant (g.S.Store.rows c.count_alone.new.store) c.count_alone.new.regions c.args.v
    (c.count_alone.ensures s.rows (near_edges s) (slot_may_count rows h.regions h.cells s c.self.invariant))
    (λ u e. subst (λ t. SlotMayHold t u) (sym (ap (λ (d : Domain). d.state) c.self.view_is)) (c.requires.may u e))
    (omega (arith, length-append h.slots.items (c.args.v ∷ []), h.slots.ok.0, ap (λ (d : Domain). d.spare) c.self.view_is, c.requires.room))

pub invariant_of-self : goal.invariant_of-self
invariant_of-self g c =
    let h = c.self.inside in
    let next = g.S.Store.rows c.count_alone.new.store in
    subst (λ items. HasParts next c.count_alone.new.regions h.cells (heap_state h.birth h.objects h.contents h.frozen next items)) (sym c.push_reserved.ensures.items) (after g c).parts

pub returns-clause-state : goal.returns-clause-state
returns-clause-state g c =
    let h = c.self.inside in
    ap (heap_state h.birth h.objects h.contents h.frozen (g.S.Store.rows c.count_alone.new.store)) c.push_reserved.ensures.items ∙ (after g c).is
    ∙ ap (λ (d : Domain). with_slot d.state c.args.v) c.self.view_is
