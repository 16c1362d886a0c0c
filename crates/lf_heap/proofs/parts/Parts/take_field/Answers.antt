use Rattle.std.proofs.Common.{None, Some, ap, refl, length, subst, sym, ◌*◌, ◌+◌, ◌∙◌, ◌≡◌, ◌≤◌}
use Rattle.lf_base.specs.declared.faults.Fault.TheVariants.{FrozenWrite, NoField}
use Rattle.lf_base.specs.declared.values.Value.TheVariants.{Obj}
use Rattle.lf_base.specs.Accesses.{field_of}
use Rattle.lf_base.specs.PlainState.{State}
use Rattle.lf_base.specs.TakeResult.{take_refusal, take_result}
use Rattle.lf_base.specs.WellFormed.{SlotMayHold}
use Rattle.lf_laws.proofs.Changes.ReadValues.{read_may_be_held}
use Rattle.lf_heap.specs.Following.{Follows}
use Rattle.lf_heap.specs.Heaps.{Domain, heap_state}
use Rattle.lf_heap.proofs.Fields.FieldReads.{field_is}
use Rattle.lf_heap.proofs.Fields.FieldTakes.{can_empty, held_after, judged_by_field, no_row_refused, take_follows, take_reached}
use Rattle.lf_heap.proofs.States.StoredStates.{Reached}
use Rattle.lf_heap.proofs.parts.Parts.take_field.Goals as goal

pub returns-in_default-clause-answer : goal.returns-in_default-clause-answer
returns-in_default-clause-answer g c =
    let h = c.self.inside in
    let rows = g.S.Store.rows h.store in
    let s = heap_state h.birth h.objects h.contents h.frozen rows h.slots.items in
    let view = ap (λ (d : Domain). d.state) c.self.view_is in
    subst (λ t. Some FrozenWrite ≡ take_refusal t c.args.o c.args.key) view
    (sym (no_row_refused rows h.regions h.cells s c.self.invariant c.args.o c.args.key (sym c.in_default.is ∙ c.owner.ensures.owner)))

pub returns-in_default-field-clause-answer : goal.returns-in_default-field-clause-answer
returns-in_default-field-clause-answer g c =
    let h = c.self.inside in
    let rows = g.S.Store.rows h.store in
    let s = heap_state h.birth h.objects h.contents h.frozen rows h.slots.items in
    let view = ap (λ (d : Domain). d.state) c.self.view_is in
    let own = sym c.in-Some.is ∙ c.owner.ensures.owner in
    subst (λ t. Some NoField ≡ take_refusal t c.args.o c.args.key) view
    (sym (judged_by_field rows h.regions h.cells s c.self.invariant c.args.o c.args.key c.in-Some.owner None own (sym c.in_default-field.is ∙ c.field.ensures.value)))

pub drop_field-requires-clause-state : goal.drop_field-requires-clause-state
drop_field-requires-clause-state g c κs within =
    let h = c.self.inside in
    let rows = g.S.Store.rows h.store in
    let s = heap_state h.birth h.objects h.contents h.frozen rows h.slots.items in
    let view = ap (λ (d : Domain). d.state) c.self.view_is in
    let own = sym c.in-Some.is ∙ c.owner.ensures.owner in
    let can = can_empty rows h.regions h.cells s c.self.invariant c.args.o c.args.key c.in-Some.owner c.args.work.now own (subst (λ (t : State). 2 * length t.rows + 1 ≤ c.args.work.now.spare) (sym view) c.requires.room) in
    (s, can)

after : (g : _) (c : goal.After-drop_field g)
    → Reached (g.S.Store.rows c.drop_field.new.store) c.drop_field.new.regions c.self.inside.cells
    (take_result (heap_state c.self.inside.birth c.self.inside.objects c.self.inside.contents c.self.inside.frozen (g.S.Store.rows c.self.inside.store) c.self.inside.slots.items) c.args.o c.args.key)
after g c =
    let h = c.self.inside in
    let rows = g.S.Store.rows h.store in
    let s = heap_state h.birth h.objects h.contents h.frozen rows h.slots.items in
    let view = ap (λ (d : Domain). d.state) c.self.view_is in
    let own = sym c.in-Some.is ∙ c.owner.ensures.owner in
    let can = can_empty rows h.regions h.cells s c.self.invariant c.args.o c.args.key c.in-Some.owner c.args.work.now own (subst (λ (t : State). 2 * length t.rows + 1 ≤ c.args.work.now.spare) (sym view) c.requires.room) in
    take_reached rows h.regions h.cells s c.self.invariant c.args.o c.args.key (g.S.Store.rows c.drop_field.new.store) c.drop_field.new.regions (c.drop_field.ensures.counted s can)

pub invariant_of-self : goal.invariant_of-self
invariant_of-self g c = (after g c).parts

pub returns-clause-answer : goal.returns-clause-answer
returns-clause-answer g c =
    let h = c.self.inside in
    let rows = g.S.Store.rows h.store in
    let s = heap_state h.birth h.objects h.contents h.frozen rows h.slots.items in
    let view = ap (λ (d : Domain). d.state) c.self.view_is in
    let own = sym c.in-Some.is ∙ c.owner.ensures.owner in
    subst (λ t. None ≡ take_refusal t c.args.o c.args.key) view
    (sym (judged_by_field rows h.regions h.cells s c.self.invariant c.args.o c.args.key c.in-Some.owner (Some c.in-Some-field.v) own (sym c.in-Some-field.is ∙ c.field.ensures.value)))

pub returns-clause-value : goal.returns-clause-value
returns-clause-value g c =
    let h = c.self.inside in
    let rows = g.S.Store.rows h.store in
    let s = heap_state h.birth h.objects h.contents h.frozen rows h.slots.items in
    let view = ap (λ (d : Domain). d.state) c.self.view_is in
    let value = field_is h.birth h.objects h.contents h.frozen rows h.slots.items (((c.self.invariant.counted).counts).store).rows c.args.o c.args.key (Some c.in-Some.owner) (sym c.in-Some.is ∙ c.owner.ensures.owner) refl ∙ sym c.field.ensures.value ∙ c.in-Some-field.is in
    subst (λ t. field_of t c.args.o c.args.key ≡ Some c.in-Some-field.v) view value

pub returns-clause-state : goal.returns-clause-state
returns-clause-state g c = (after g c).is ∙ ap (λ (d : Domain). take_result d.state c.args.o c.args.key) c.self.view_is

pub returns-clause-may : goal.returns-clause-may
returns-clause-may g c =
    let h = c.self.inside in
    let rows = g.S.Store.rows h.store in
    let s = heap_state h.birth h.objects h.contents h.frozen rows h.slots.items in
    let value = field_is h.birth h.objects h.contents h.frozen rows h.slots.items (((c.self.invariant.counted).counts).store).rows c.args.o c.args.key (Some c.in-Some.owner) (sym c.in-Some.is ∙ c.owner.ensures.owner) refl ∙ sym c.field.ensures.value ∙ c.in-Some-field.is in
    subst (λ t. SlotMayHold t c.in-Some-field.v) (sym (after g c).is)
    (held_after rows h.regions h.cells s c.self.invariant c.args.o c.args.key c.in-Some-field.v
    (read_may_be_held s (Obj c.args.o) (Some c.args.key) c.in-Some-field.v (c.self.invariant.counted).well_formed value))

pub returns-clause-follows : goal.returns-clause-follows
returns-clause-follows g c =
    let h = c.self.inside in
    let rows = g.S.Store.rows h.store in
    let s = heap_state h.birth h.objects h.contents h.frozen rows h.slots.items in
    let view = ap (λ (d : Domain). d.state) c.self.view_is in
    let own = sym c.in-Some.is ∙ c.owner.ensures.owner in
    let can = can_empty rows h.regions h.cells s c.self.invariant c.args.o c.args.key c.in-Some.owner c.args.work.now own (subst (λ (t : State). 2 * length t.rows + 1 ≤ c.args.work.now.spare) (sym view) c.requires.room) in
    let next = g.S.Store.rows c.drop_field.new.store in
    let end = heap_state h.birth h.objects h.contents h.frozen next h.slots.items in
    subst (λ u. Follows u end c.args.work.now c.drop_field.new.work 1) view
    (subst (λ u. Follows s u c.args.work.now c.drop_field.new.work 1) (sym (after g c).is)
    (take_follows rows h.regions h.cells s c.self.invariant c.args.o c.args.key next c.drop_field.new.regions c.args.work.now c.drop_field.new.work
    (c.drop_field.ensures.counted s can) (c.drop_field.ensures.loses s can) c.drop_field.ensures.capacity c.drop_field.ensures.one))
