use Rattle.std.proofs.Common.{ap, false, refl, subst, sym, inr, ◌∙◌, ◌≡◌}
use Rattle.lf_base.specs.declared.values.Owner.TheVariants.{In}
use Rattle.lf_base.specs.declared.values.Value.TheVariants.{Obj}
use Rattle.lf_base.specs.PlainChanges.{next_object, region_result}
use Rattle.lf_base.specs.WellFormed.{SlotMayHold}
use Rattle.lf_graph.specs.RowChanges.{with_new_row}
use Rattle.lf_graph.specs.StoredRows.{IsNewName, SameByOwner}
use Rattle.lf_regions.specs.RegionChanges.{with_region}
use Rattle.lf_regions.specs.Regions.{has_region}
use Rattle.lf_heap.specs.Heaps.{Domain, HasParts, heap_state}
use Rattle.lf_heap.proofs.States.NewRows.{has_no_region, name_is_new, new_may_be_held, region_reached}
use Rattle.lf_heap.proofs.States.StoredStates.{Reached, on_err, same_reached}
use Rattle.lf_heap.proofs.parts.Parts.add_region.Goals as goal

pub invariant_of-self : goal.invariant_of-self
invariant_of-self g c =
    let h = c.self.inside in
    (same_reached (g.S.Store.rows h.store) h.regions h.cells (heap_state h.birth h.objects h.contents h.frozen (g.S.Store.rows h.store) h.slots.items) c.self.invariant (g.S.Store.rows c.reserve.new.self) c.reserve.ensures.rows).parts

pub returns-in_err-reserve-clause-unchanged : goal.returns-in_err-reserve-clause-unchanged
returns-in_err-reserve-clause-unchanged g c =
    let h = c.self.inside in
    let rows = g.S.Store.rows h.store in
    let s = heap_state h.birth h.objects h.contents h.frozen rows h.slots.items in
    let now = g.S.Store.rows c.reserve.new.self in
    let held = same_reached rows h.regions h.cells s c.self.invariant now c.reserve.ensures.rows in
    on_err c.from_residual-in_err-reserve.result (held.is ∙ ap (λ (d : Domain). d.state) c.self.view_is)

pub invariant_of-self-in_err-make : goal.invariant_of-self-in_err-make
invariant_of-self-in_err-make g c =
    let h = c.self.inside in
    let rows = g.S.Store.rows h.store in
    let s = heap_state h.birth h.objects h.contents h.frozen rows h.slots.items in
    let now = g.S.Store.rows c.reserve.new.self in
    let held = same_reached rows h.regions h.cells s c.self.invariant now c.reserve.ensures.rows in
    subst (λ table. HasParts now table h.cells (heap_state h.birth h.objects h.contents h.frozen now h.slots.items)) (sym c.in_err-make.ensures.unchanged) held.parts

pub returns-in_err-make-clause-unchanged : goal.returns-in_err-make-clause-unchanged
returns-in_err-make-clause-unchanged g c =
    let h = c.self.inside in
    let rows = g.S.Store.rows h.store in
    let s = heap_state h.birth h.objects h.contents h.frozen rows h.slots.items in
    let now = g.S.Store.rows c.reserve.new.self in
    let held = same_reached rows h.regions h.cells s c.self.invariant now c.reserve.ensures.rows in
    on_err c.from_residual-in_err-make.result (held.is ∙ ap (λ (d : Domain). d.state) c.self.view_is)

pub make-requires : goal.make-requires
make-requires g c =
    let h = c.self.inside in
    let rows = g.S.Store.rows h.store in
    let s = heap_state h.birth h.objects h.contents h.frozen rows h.slots.items in
    let now = g.S.Store.rows c.reserve.new.self in
    let held = same_reached rows h.regions h.cells s c.self.invariant now c.reserve.ensures.rows in
    let name : next_object s ≡ c.in_ok-o.o = ap (λ (d : Domain). next_object d.state) c.self.view_is ∙ sym c.in_ok-o.ensures.name in
    subst (λ n. has_region h.regions n ≡ false) name (has_no_region now h.regions h.cells (heap_state h.birth h.objects h.contents h.frozen now h.slots.items) held.parts)

pub insert_alone-requires-clause-new : goal.insert_alone-requires-clause-new
insert_alone-requires-clause-new g c κs within =
    let h = c.self.inside in
    let rows = g.S.Store.rows h.store in
    let s = heap_state h.birth h.objects h.contents h.frozen rows h.slots.items in
    let now = g.S.Store.rows c.reserve.new.self in
    let held = same_reached rows h.regions h.cells s c.self.invariant now c.reserve.ensures.rows in
    let name : next_object s ≡ c.in_ok-o.o = ap (λ (d : Domain). next_object d.state) c.self.view_is ∙ sym c.in_ok-o.ensures.name in
    subst (IsNewName now) name (name_is_new now h.regions h.cells (heap_state h.birth h.objects h.contents h.frozen now h.slots.items) held.parts)

after : (g : _) (c : goal.After-insert_alone g)
    → Reached (g.S.Store.rows c.insert_alone.new.store) c.make.new.self c.self.inside.cells
    (region_result (heap_state c.self.inside.birth c.self.inside.objects c.self.inside.contents c.self.inside.frozen (g.S.Store.rows c.reserve.new.self) c.self.inside.slots.items))
after g c =
    let h = c.self.inside in
    let rows = g.S.Store.rows h.store in
    let s = heap_state h.birth h.objects h.contents h.frozen rows h.slots.items in
    let now = g.S.Store.rows c.reserve.new.self in
    let held = same_reached rows h.regions h.cells s c.self.invariant now c.reserve.ensures.rows in
    let name : next_object s ≡ c.in_ok-o.o = ap (λ (d : Domain). next_object d.state) c.self.view_is ∙ sym c.in_ok-o.ensures.name in
    let next = g.S.Store.rows c.insert_alone.new.store in
    subst (λ table. Reached next table h.cells (region_result (heap_state h.birth h.objects h.contents h.frozen now h.slots.items))) (ap (with_region h.regions) name ∙ sym c.in_ok-make.ensures.made)
    (region_reached now h.regions h.cells (heap_state h.birth h.objects h.contents h.frozen now h.slots.items) held.parts next
    (subst (λ n. SameByOwner next (with_new_row now n (In n))) (sym name) c.insert_alone.ensures))

pub invariant_of-self-2 : goal.invariant_of-self-2
invariant_of-self-2 g c = (after g c).parts

pub returns-clause-state : goal.returns-clause-state
returns-clause-state g c =
    let h = c.self.inside in
    let rows = g.S.Store.rows h.store in
    let s = heap_state h.birth h.objects h.contents h.frozen rows h.slots.items in
    let now = g.S.Store.rows c.reserve.new.self in
    let held = same_reached rows h.regions h.cells s c.self.invariant now c.reserve.ensures.rows in
    (after g c).is ∙ ap region_result held.is ∙ ap (λ (d : Domain). region_result d.state) c.self.view_is

pub returns-clause-may : goal.returns-clause-may
returns-clause-may g c =
    let h = c.self.inside in
    let rows = g.S.Store.rows h.store in
    let s = heap_state h.birth h.objects h.contents h.frozen rows h.slots.items in
    let now = g.S.Store.rows c.reserve.new.self in
    let held = same_reached rows h.regions h.cells s c.self.invariant now c.reserve.ensures.rows in
    let name : next_object s ≡ c.in_ok-o.o = ap (λ (d : Domain). next_object d.state) c.self.view_is ∙ sym c.in_ok-o.ensures.name in
    subst (λ t. SlotMayHold t (Obj c.in_ok-o.o)) (sym (after g c).is)
    (subst (λ n. SlotMayHold (region_result (heap_state h.birth h.objects h.contents h.frozen now h.slots.items)) (Obj n)) name
    (new_may_be_held (heap_state h.birth h.objects h.contents h.frozen now h.slots.items) (In (next_object s)) (held.parts.counted).well_formed (inr refl)))
