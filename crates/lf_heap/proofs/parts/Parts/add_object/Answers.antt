use Rattle.std.proofs.Common.{ap, refl, subst, sym, inl, ◌∙◌, ◌≡◌}
use Rattle.lf_base.specs.declared.values.Owner.TheVariants.{Local}
use Rattle.lf_base.specs.declared.values.Value.TheVariants.{Obj}
use Rattle.lf_base.specs.PlainChanges.{next_object, object_result}
use Rattle.lf_base.specs.WellFormed.{SlotMayHold}
use Rattle.lf_graph.specs.RowChanges.{with_new_row}
use Rattle.lf_graph.specs.StoredRows.{IsNewName, SameByOwner}
use Rattle.lf_heap.specs.Heaps.{Domain, heap_state}
use Rattle.lf_heap.proofs.States.NewRows.{name_is_new, new_may_be_held, object_reached}
use Rattle.lf_heap.proofs.States.StoredStates.{Reached, on_err, same_reached}
use Rattle.lf_heap.proofs.parts.Parts.add_object.Goals as goal

pub invariant_of-self : goal.invariant_of-self
invariant_of-self g c =
    let h = c.self.inside in
    (same_reached (g.S.Store.rows h.store) h.regions h.cells (heap_state h.birth h.objects h.contents h.frozen (g.S.Store.rows h.store) h.slots.items) c.self.invariant (g.S.Store.rows c.reserve.new.self) c.reserve.ensures.rows).parts

pub returns-in_err-reserve-clause-unchanged : goal.returns-in_err-reserve-clause-unchanged
returns-in_err-reserve-clause-unchanged g c =
    let h = c.self.inside in
    let rows = g.S.Store.rows h.store in
    let s = heap_state h.birth h.objects h.contents h.frozen rows h.slots.items in
    let now = g.S.Store.rows c.reserve.new.self in
    let held = same_reached rows h.regions h.cells s c.self.invariant now c.reserve.ensures.rows in
    on_err c.from_residual-in_err-reserve.result (held.is ∙ ap (λ (d : Domain). d.state) c.self.view_is)

pub insert_alone-requires-clause-new : goal.insert_alone-requires-clause-new
insert_alone-requires-clause-new g c κs within =
    let h = c.self.inside in
    let rows = g.S.Store.rows h.store in
    let s = heap_state h.birth h.objects h.contents h.frozen rows h.slots.items in
    let now = g.S.Store.rows c.reserve.new.self in
    let held = same_reached rows h.regions h.cells s c.self.invariant now c.reserve.ensures.rows in
    let name : next_object s ≡ c.in_ok-o.o = ap (λ (d : Domain). next_object d.state) c.self.view_is ∙ sym c.in_ok-o.ensures.name in
    subst (IsNewName now) name (name_is_new now h.regions h.cells (heap_state h.birth h.objects h.contents h.frozen now h.slots.items) held.parts)

after : (g : _) (c : goal.After-insert_alone g)
    → Reached (g.S.Store.rows c.insert_alone.new.store) c.self.inside.regions c.self.inside.cells
    (object_result (heap_state c.self.inside.birth c.self.inside.objects c.self.inside.contents c.self.inside.frozen (g.S.Store.rows c.reserve.new.self) c.self.inside.slots.items))
after g c =
    let h = c.self.inside in
    let rows = g.S.Store.rows h.store in
    let s = heap_state h.birth h.objects h.contents h.frozen rows h.slots.items in
    let now = g.S.Store.rows c.reserve.new.self in
    let held = same_reached rows h.regions h.cells s c.self.invariant now c.reserve.ensures.rows in
    let name : next_object s ≡ c.in_ok-o.o = ap (λ (d : Domain). next_object d.state) c.self.view_is ∙ sym c.in_ok-o.ensures.name in
    object_reached now h.regions h.cells (heap_state h.birth h.objects h.contents h.frozen now h.slots.items) held.parts (g.S.Store.rows c.insert_alone.new.store)
    (subst (λ n. SameByOwner (g.S.Store.rows c.insert_alone.new.store) (with_new_row now n Local)) (sym name) c.insert_alone.ensures)

pub invariant_of-self-2 : goal.invariant_of-self-2
invariant_of-self-2 g c = (after g c).parts

pub returns-clause-state : goal.returns-clause-state
returns-clause-state g c =
    let h = c.self.inside in
    let rows = g.S.Store.rows h.store in
    let s = heap_state h.birth h.objects h.contents h.frozen rows h.slots.items in
    let now = g.S.Store.rows c.reserve.new.self in
    let held = same_reached rows h.regions h.cells s c.self.invariant now c.reserve.ensures.rows in
    (after g c).is ∙ ap object_result held.is ∙ ap (λ (d : Domain). object_result d.state) c.self.view_is

pub returns-clause-may : goal.returns-clause-may
returns-clause-may g c =
    let h = c.self.inside in
    let rows = g.S.Store.rows h.store in
    let s = heap_state h.birth h.objects h.contents h.frozen rows h.slots.items in
    let now = g.S.Store.rows c.reserve.new.self in
    let held = same_reached rows h.regions h.cells s c.self.invariant now c.reserve.ensures.rows in
    let name : next_object s ≡ c.in_ok-o.o = ap (λ (d : Domain). next_object d.state) c.self.view_is ∙ sym c.in_ok-o.ensures.name in
    subst (λ t. SlotMayHold t (Obj c.in_ok-o.o)) (sym (after g c).is)
    (subst (λ n. SlotMayHold (object_result (heap_state h.birth h.objects h.contents h.frozen now h.slots.items)) (Obj n)) name
    (new_may_be_held (heap_state h.birth h.objects h.contents h.frozen now h.slots.items) Local (held.parts.counted).well_formed (inl refl)))
