use Rattle.std.proofs.Common.{None, ap, arith, refl, subst, sym, ◌+◌, ◌<◌, ◌^◌, ◌∙◌, ◌≡◌}
use Rattle.lf_base.specs.NewCown.{made_result, new_cown_refusal, next_cown}
use Rattle.lf_base.specs.Operands.{operand, without_last}
use Rattle.lf_base.specs.WellFormed.{SlotMayHold}
use Rattle.lf_heap.specs.Following.{Follows}
use Rattle.lf_heap.specs.Heaps.{Domain, heap_state}
use Rattle.lf_heap.proofs.Calls.OperandSlots.{operand_may_be_held}
use Rattle.lf_heap.proofs.CownContents.CownsMade.{made_follows, made_is, made_parts, made_unrefused, may_make}
use Rattle.lf_heap.proofs.States.StoredStates.{domain_of}
use Rattle.lf_heap.proofs.parts.Parts.add_cown.Goals as goal

pub apply_content-requires-clause-checked : goal.apply_content-requires-clause-checked
apply_content-requires-clause-checked g c κs within =
    let h = c.self.inside in
    let rows = g.S.Store.rows h.store in
    let s = heap_state h.birth h.objects h.contents h.frozen rows h.slots.items in
    let view : s ≡ c.args.self.now.state = ap (λ (d : Domain). d.state) c.self.view_is in
    let allowed = made_unrefused s c.args.v (subst (λ t. None ≡ new_cown_refusal (without_last 1 t) c.args.v) (sym view) c.in_ok-judge_cown.ensures.answer) in
    let name = c.in_ok-cown.ensures.name ∙ ap next_cown (sym view) in
    (s, (domain_of rows h.regions h.cells s c.self.invariant, may_make s c.in_ok-cown.cown c.args.v name allowed))

pub invariant_of-self-2 : goal.invariant_of-self-2
invariant_of-self-2 g c =
    let h = c.self.inside in
    let rows = g.S.Store.rows h.store in
    let s = heap_state h.birth h.objects h.contents h.frozen rows h.slots.items in
    let view : s ≡ c.args.self.now.state = ap (λ (d : Domain). d.state) c.self.view_is in
    let allowed = made_unrefused s c.args.v (subst (λ t. None ≡ new_cown_refusal (without_last 1 t) c.args.v) (sym view) c.in_ok-judge_cown.ensures.answer) in
    let name = c.in_ok-cown.ensures.name ∙ ap next_cown (sym view) in
    let may = subst (SlotMayHold s) (sym (c.requires.last ∙ ap (λ t. operand t 0) (sym view))) (operand_may_be_held s (c.self.invariant.counted).well_formed 0) in
    let few : h.cells + 1 < 2 ^ 62 = omega (arith, c.if-self-ge-MOST_CELLS.false) in
    let counts = c.apply_content.ensures.made s (domain_of rows h.regions h.cells s c.self.invariant) (may_make s c.in_ok-cown.cown c.args.v name allowed) name refl in
    made_parts h.birth h.objects h.contents c.make.new.self h.frozen h.slots.items rows (g.S.Store.rows c.apply_content.new.store) h.regions c.apply_content.new.regions h.cells c.in_ok-cown.cown c.args.v
    c.self.invariant may allowed few counts name c.in_ok-make.ensures.held c.in_ok-make.ensures.made

pub returns-clause-state : goal.returns-clause-state
returns-clause-state g c =
    let h = c.self.inside in
    let rows = g.S.Store.rows h.store in
    let s = heap_state h.birth h.objects h.contents h.frozen rows h.slots.items in
    let view : s ≡ c.args.self.now.state = ap (λ (d : Domain). d.state) c.self.view_is in
    let allowed = made_unrefused s c.args.v (subst (λ t. None ≡ new_cown_refusal (without_last 1 t) c.args.v) (sym view) c.in_ok-judge_cown.ensures.answer) in
    let name = c.in_ok-cown.ensures.name ∙ ap next_cown (sym view) in
    let may = subst (SlotMayHold s) (sym (c.requires.last ∙ ap (λ t. operand t 0) (sym view))) (operand_may_be_held s (c.self.invariant.counted).well_formed 0) in
    let few : h.cells + 1 < 2 ^ 62 = omega (arith, c.if-self-ge-MOST_CELLS.false) in
    let counts = c.apply_content.ensures.made s (domain_of rows h.regions h.cells s c.self.invariant) (may_make s c.in_ok-cown.cown c.args.v name allowed) name refl in
    made_is h.birth h.objects h.contents c.make.new.self h.frozen h.slots.items rows (g.S.Store.rows c.apply_content.new.store) h.regions c.apply_content.new.regions h.cells c.in_ok-cown.cown c.args.v
    c.self.invariant may allowed few counts name c.in_ok-make.ensures.held c.in_ok-make.ensures.made
    ∙ ap (λ t. made_result t c.args.v) view

pub returns-clause-follows : goal.returns-clause-follows
returns-clause-follows g c =
    let h = c.self.inside in
    let rows = g.S.Store.rows h.store in
    let s = heap_state h.birth h.objects h.contents h.frozen rows h.slots.items in
    let view : s ≡ c.args.self.now.state = ap (λ (d : Domain). d.state) c.self.view_is in
    let allowed = made_unrefused s c.args.v (subst (λ t. None ≡ new_cown_refusal (without_last 1 t) c.args.v) (sym view) c.in_ok-judge_cown.ensures.answer) in
    let name = c.in_ok-cown.ensures.name ∙ ap next_cown (sym view) in
    let may = subst (SlotMayHold s) (sym (c.requires.last ∙ ap (λ t. operand t 0) (sym view))) (operand_may_be_held s (c.self.invariant.counted).well_formed 0) in
    let few : h.cells + 1 < 2 ^ 62 = omega (arith, c.if-self-ge-MOST_CELLS.false) in
    let counts = c.apply_content.ensures.made s (domain_of rows h.regions h.cells s c.self.invariant) (may_make s c.in_ok-cown.cown c.args.v name allowed) name refl in
    let next = g.S.Store.rows c.apply_content.new.store in
    subst (λ u. Follows u (heap_state h.birth h.objects c.make.new.self h.frozen next h.slots.items) c.args.work.now c.judge_cown.new.found 0) view
    (made_follows h.birth h.objects h.contents c.make.new.self h.frozen h.slots.items rows next h.regions c.apply_content.new.regions h.cells c.in_ok-cown.cown c.args.v
    c.self.invariant may allowed few counts name c.in_ok-make.ensures.held c.in_ok-make.ensures.made c.args.work.now c.judge_cown.new.found c.judge_cown.ensures.same)
