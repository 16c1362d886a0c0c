use Rattle.std.proofs.Common.{None, ap, arith, subst, sym, ◌+◌, ◌∙◌, ◌≡◌}
use Rattle.lf_base.specs.Noticing.{InSlot}
use Rattle.lf_base.specs.Owners.{row_at}
use Rattle.lf_base.specs.TakeResult.{row_field}
use Rattle.lf_base.specs.WellFormed.{SlotMayHold}
use Rattle.lf_base.specs.WriteResult.{write_refusal, write_result}
use Rattle.lf_barrier.specs.WritePlans.{FailsAs}
use Rattle.lf_domain.specs.Counts.{IsDomain}
use Rattle.lf_heap.specs.Following.{Follows}
use Rattle.lf_heap.specs.Heaps.{Domain, heap_state}
use Rattle.lf_heap.proofs.Fields.FieldWrites.{may_ask, one_target, write_follows, write_reached}
use Rattle.lf_heap.proofs.States.StoredStates.{Reached, domain_of, same_reached}
use Rattle.lf_heap.proofs.parts.Parts.put_field.Goals as goal

pub plan_write-planned-requires-clause-asked : goal.plan_write-planned-requires-clause-asked
plan_write-planned-requires-clause-asked g c κs within =
    let h = c.self.inside in
    let rows = g.S.Store.rows h.store in
    let s = heap_state h.birth h.objects h.contents h.frozen rows h.slots.items in
    let view = ap (λ (d : Domain). d.state) c.self.view_is in
    let in_slot = subst (λ t. InSlot t c.args.o) (sym view) c.requires.named in
    let may = subst (λ t. SlotMayHold t c.args.v) (sym view) c.requires.may in
    let asked = may_ask rows h.regions h.cells s c.self.invariant c.args.o c.args.key c.args.v may in_slot in
    (s, asked)

pub invariant_of-self : goal.invariant_of-self
invariant_of-self g c =
    let h = c.self.inside in
    let rows = g.S.Store.rows h.store in
    let s = heap_state h.birth h.objects h.contents h.frozen rows h.slots.items in
    let now = g.S.Store.rows c.plan_write-planned.new.store in
    let held = same_reached rows h.regions h.cells s c.self.invariant now c.plan_write-planned.ensures.rows in
    held.parts

pub returns-in-Err-clause-answer : goal.returns-in-Err-clause-answer
returns-in-Err-clause-answer g c =
    let h = c.self.inside in
    let rows = g.S.Store.rows h.store in
    let s = heap_state h.birth h.objects h.contents h.frozen rows h.slots.items in
    let view = ap (λ (d : Domain). d.state) c.self.view_is in
    let in_slot = subst (λ t. InSlot t c.args.o) (sym view) c.requires.named in
    let may = subst (λ t. SlotMayHold t c.args.v) (sym view) c.requires.may in
    let asked = may_ask rows h.regions h.cells s c.self.invariant c.args.o c.args.key c.args.v may in_slot in
    subst (λ t. FailsAs (write_refusal t c.args.o c.args.key c.args.v) c.in-Err.fail) view (c.in-Err.ensures.answer s asked)

pub returns-in-Err-clause-unchanged : goal.returns-in-Err-clause-unchanged
returns-in-Err-clause-unchanged g c =
    let h = c.self.inside in
    let rows = g.S.Store.rows h.store in
    let s = heap_state h.birth h.objects h.contents h.frozen rows h.slots.items in
    let now = g.S.Store.rows c.plan_write-planned.new.store in
    let held = same_reached rows h.regions h.cells s c.self.invariant now c.plan_write-planned.ensures.rows in
    let view = ap (λ (d : Domain). d.state) c.self.view_is in
    held.is ∙ view

pub apply_write-old-requires-clause-planned : goal.apply_write-old-requires-clause-planned
apply_write-old-requires-clause-planned g c κs within =
    let h = c.self.inside in
    let rows = g.S.Store.rows h.store in
    let s = heap_state h.birth h.objects h.contents h.frozen rows h.slots.items in
    let view = ap (λ (d : Domain). d.state) c.self.view_is in
    let in_slot = subst (λ t. InSlot t c.args.o) (sym view) c.requires.named in
    let may = subst (λ t. SlotMayHold t c.args.v) (sym view) c.requires.may in
    let asked = may_ask rows h.regions h.cells s c.self.invariant c.args.o c.args.key c.args.v may in_slot in
    let now = g.S.Store.rows c.plan_write-planned.new.store in
    let held = same_reached rows h.regions h.cells s c.self.invariant now c.plan_write-planned.ensures.rows in
    let plan = c.in-Ok.plan in
    let is_plan = c.in-Ok.ensures.plan s asked in
    let domain = subst (IsDomain now h.regions) held.is (domain_of now h.regions h.cells (heap_state h.birth h.objects h.contents h.frozen now h.slots.items) held.parts) in
    (s, (domain, is_plan))

after : (g : _) (c : goal.After-note g)
    → Reached (g.S.Store.rows c.apply_write-old.new.store) c.apply_write-old.new.regions (c.self.inside.cells + 1)
    (write_result (heap_state c.self.inside.birth c.self.inside.objects c.self.inside.contents c.self.inside.frozen (g.S.Store.rows c.self.inside.store) c.self.inside.slots.items) c.args.o c.args.key c.args.v)
after g c =
    let h = c.self.inside in
    let rows = g.S.Store.rows h.store in
    let s = heap_state h.birth h.objects h.contents h.frozen rows h.slots.items in
    let view = ap (λ (d : Domain). d.state) c.self.view_is in
    let in_slot = subst (λ t. InSlot t c.args.o) (sym view) c.requires.named in
    let may = subst (λ t. SlotMayHold t c.args.v) (sym view) c.requires.may in
    let asked = may_ask rows h.regions h.cells s c.self.invariant c.args.o c.args.key c.args.v may in_slot in
    let now = g.S.Store.rows c.plan_write-planned.new.store in
    let held = same_reached rows h.regions h.cells s c.self.invariant now c.plan_write-planned.ensures.rows in
    let plan = c.in-Ok.plan in
    let is_plan = c.in-Ok.ensures.plan s asked in
    let domain = subst (IsDomain now h.regions) held.is (domain_of now h.regions h.cells (heap_state h.birth h.objects h.contents h.frozen now h.slots.items) held.parts) in
    write_reached rows h.regions h.cells s c.self.invariant c.args.o c.args.key c.args.v may plan c.in-Ok.ensures.target c.in-Ok.ensures.key c.in-Ok.ensures.value is_plan
    (g.S.Store.rows c.apply_write-old.new.store) c.apply_write-old.new.regions (c.apply_write-old.ensures.counts s domain is_plan) (omega (arith, c.if-self-ge-MOST_CELLS.false))

pub invariant_of-self-2 : goal.invariant_of-self-2
invariant_of-self-2 g c = (after g c).parts

pub returns-clause-answer : goal.returns-clause-answer
returns-clause-answer g c =
    let h = c.self.inside in
    let rows = g.S.Store.rows h.store in
    let s = heap_state h.birth h.objects h.contents h.frozen rows h.slots.items in
    let view = ap (λ (d : Domain). d.state) c.self.view_is in
    let in_slot = subst (λ t. InSlot t c.args.o) (sym view) c.requires.named in
    let may = subst (λ t. SlotMayHold t c.args.v) (sym view) c.requires.may in
    let asked = may_ask rows h.regions h.cells s c.self.invariant c.args.o c.args.key c.args.v may in_slot in
    subst (λ t. write_refusal t c.args.o c.args.key c.args.v ≡ None) view (c.in-Ok.ensures.answer s asked)

pub returns-clause-state : goal.returns-clause-state
returns-clause-state g c = (after g c).is ∙ ap (λ (d : Domain). write_result d.state c.args.o c.args.key c.args.v) c.self.view_is

pub returns-clause-follows : goal.returns-clause-follows
returns-clause-follows g c =
    let h = c.self.inside in
    let rows = g.S.Store.rows h.store in
    let s = heap_state h.birth h.objects h.contents h.frozen rows h.slots.items in
    let view = ap (λ (d : Domain). d.state) c.self.view_is in
    let in_slot = subst (λ t. InSlot t c.args.o) (sym view) c.requires.named in
    let may = subst (λ t. SlotMayHold t c.args.v) (sym view) c.requires.may in
    let asked = may_ask rows h.regions h.cells s c.self.invariant c.args.o c.args.key c.args.v may in_slot in
    let now = g.S.Store.rows c.plan_write-planned.new.store in
    let held = same_reached rows h.regions h.cells s c.self.invariant now c.plan_write-planned.ensures.rows in
    let plan = c.in-Ok.plan in
    let is_plan = c.in-Ok.ensures.plan s asked in
    let domain = subst (IsDomain now h.regions) held.is (domain_of now h.regions h.cells (heap_state h.birth h.objects h.contents h.frozen now h.slots.items) held.parts) in
    let end = heap_state h.birth h.objects h.contents h.frozen (g.S.Store.rows c.apply_write-old.new.store) h.slots.items in
    let was = subst (λ i. c.apply_write-old.result ≡ row_field (row_at s.rows c.args.o) i) c.in-Ok.ensures.key
    (subst (λ x. c.apply_write-old.result ≡ row_field (row_at s.rows x) plan.key) c.in-Ok.ensures.target (c.apply_write-old.ensures.value s domain)) in
    subst (λ u. Follows u end c.args.work.now c.note.new.work 1) view
    (subst (λ u. Follows s u c.args.work.now c.note.new.work 1) (sym (after g c).is)
    (write_follows rows h.regions h.cells s c.self.invariant c.args.o c.args.key c.args.v may plan c.in-Ok.ensures.target c.in-Ok.ensures.key c.in-Ok.ensures.value is_plan
    c.apply_write-old.result was c.args.work.now c.note.new.work c.note.ensures.suspects c.note.ensures.capacity (one_target c.apply_write-old.result) in_slot))
