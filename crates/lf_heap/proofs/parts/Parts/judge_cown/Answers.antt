use Rattle.std.proofs.Common.{None, Some, ap, false, length, subst, sym, true, ◌∙◌, ◌≡◌, ◌≤◌}
use Rattle.std.proofs.lemmas.Result.{err_from_is_err_and}
use Rattle.std.specs.Result.{result_err}
use Rattle.lf_base.specs.declared.faults.Fault.TheVariants.{Open}
use Rattle.lf_base.specs.NewCown.{new_cown_refusal}
use Rattle.lf_base.specs.Operands.{operand, without_last}
use Rattle.lf_base.specs.PlainState.{State}
use Rattle.lf_heap.specs.Heaps.{Domain, heap_state}
use Rattle.lf_heap.proofs.Answered.WithoutSlot.{bridge_is}
use Rattle.lf_heap.proofs.CownContents.CownsMade.{cown_judged, cown_refused, cown_unbridged, lack_last}
use Rattle.lf_heap.proofs.States.StoredStates.{domain_of}
use Rattle.lf_heap.proofs.parts.Parts.judge_cown.Goals as goal

pub check_content-requires-clause-domain : goal.check_content-requires-clause-domain
check_content-requires-clause-domain g c κs within =
    let h = c.self.inside in
    let rows = g.S.Store.rows h.store in
    let s = heap_state h.birth h.objects h.contents h.frozen rows h.slots.items in
    (s, domain_of rows h.regions h.cells s c.self.invariant)

pub returns-in_err-check_content-clause-answer : goal.returns-in_err-check_content-clause-answer
returns-in_err-check_content-clause-answer g c =
    let h = c.self.inside in
    let rows = g.S.Store.rows h.store in
    let s = heap_state h.birth h.objects h.contents h.frozen rows h.slots.items in
    let view : s ≡ c.args.self.now.state = ap (λ (d : Domain). d.state) c.self.view_is in
    let fault = c.in_err-check_content.field-0.0 in
    let left = err_from_is_err_and c.from_residual.result c.from_residual.ensures.1 in
    ap result_err left.1 ∙ ap Some left.2
    ∙ subst (λ t. Some fault ≡ new_cown_refusal (without_last 1 t) c.args.v) view
    (cown_refused s c.args.v fault (c.in_err-check_content.ensures.answer s (domain_of rows h.regions h.cells s c.self.invariant)))

pub returns-in_default-clause-answer : goal.returns-in_default-clause-answer
returns-in_default-clause-answer g c =
    let h = c.self.inside in
    let rows = g.S.Store.rows h.store in
    let s = heap_state h.birth h.objects h.contents h.frozen rows h.slots.items in
    let view : s ≡ c.args.self.now.state = ap (λ (d : Domain). d.state) c.self.view_is in
    let domain = domain_of rows h.regions h.cells s c.self.invariant in
    subst (λ t. None ≡ new_cown_refusal (without_last 1 t) c.args.v) view
    (cown_unbridged s c.args.v (c.in_ok-check_content.ensures.answer s domain) (sym c.in_default.is ∙ c.bridge_of.ensures h.regions s domain))

pub is_open_without_slot-requires-clause-region : goal.is_open_without_slot-requires-clause-region
is_open_without_slot-requires-clause-region g c κs within =
    let h = c.self.inside in
    let rows = g.S.Store.rows h.store in
    let s = heap_state h.birth h.objects h.contents h.frozen rows h.slots.items in
    let view : s ≡ c.args.self.now.state = ap (λ (d : Domain). d.state) c.self.view_is in
    let domain = domain_of rows h.regions h.cells s c.self.invariant in
    let bridge = bridge_is s c.args.v c.in-Some.r (c.in-Some.ensures h.regions s domain) in
    (s, (domain, (bridge.inside, subst (λ (t : State). length t.rows ≤ c.args.found.now.spare) (sym view) c.requires.room)))

pub returns-then-is_open_without_slot-clause-answer : goal.returns-then-is_open_without_slot-clause-answer
returns-then-is_open_without_slot-clause-answer g c =
    let h = c.self.inside in
    let rows = g.S.Store.rows h.store in
    let s = heap_state h.birth h.objects h.contents h.frozen rows h.slots.items in
    let view : s ≡ c.args.self.now.state = ap (λ (d : Domain). d.state) c.self.view_is in
    let domain = domain_of rows h.regions h.cells s c.self.invariant in
    let r = c.in-Some.ensures h.regions s domain in
    let bridge = bridge_is s c.args.v c.in-Some.r r in
    let there = subst (λ (t : State). 1 ≤ length t.slots) (sym view) c.requires.there in
    let last = subst (λ t. c.args.v ≡ operand t 0) (sym view) c.requires.last in
    let lack = lack_last s c.in-Some.r there (sym last ∙ bridge.value) in
    subst (λ t. Some Open ≡ new_cown_refusal (without_last 1 t) c.args.v) view
    (cown_judged s c.args.v c.in-Some.r true (c.in_ok-check_content.ensures.answer s domain) r
    (sym c.if-is_open_without_slot.true ∙ c.is_open_without_slot.ensures.«open» s (without_last 1 s).slots domain bridge.inside lack))

pub returns-clause-answer : goal.returns-clause-answer
returns-clause-answer g c =
    let h = c.self.inside in
    let rows = g.S.Store.rows h.store in
    let s = heap_state h.birth h.objects h.contents h.frozen rows h.slots.items in
    let view : s ≡ c.args.self.now.state = ap (λ (d : Domain). d.state) c.self.view_is in
    let domain = domain_of rows h.regions h.cells s c.self.invariant in
    let r = c.in-Some.ensures h.regions s domain in
    let bridge = bridge_is s c.args.v c.in-Some.r r in
    let there = subst (λ (t : State). 1 ≤ length t.slots) (sym view) c.requires.there in
    let last = subst (λ t. c.args.v ≡ operand t 0) (sym view) c.requires.last in
    let lack = lack_last s c.in-Some.r there (sym last ∙ bridge.value) in
    subst (λ t. None ≡ new_cown_refusal (without_last 1 t) c.args.v) view
    (cown_judged s c.args.v c.in-Some.r false (c.in_ok-check_content.ensures.answer s domain) r
    (sym c.if-is_open_without_slot.false ∙ c.is_open_without_slot.ensures.«open» s (without_last 1 s).slots domain bridge.inside lack))
