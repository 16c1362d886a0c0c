use Rattle.std.proofs.Common.{None, Some, ap, subst, sym, ◌∙◌, ◌≡◌}
use Rattle.std.proofs.lemmas.Result.{err_from_is_err_and}
use Rattle.std.specs.Result.{result_err}
use Rattle.lf_base.specs.ContentRefusal.{refusal_as_content}
use Rattle.lf_heap.specs.Heaps.{Domain, heap_state}
use Rattle.lf_heap.proofs.CownContents.ContentWrites.{refused_after}
use Rattle.lf_heap.proofs.States.StoredStates.{domain_of}
use Rattle.lf_laws.proofs.Judging.Contents.{held_refusal}
use Rattle.lf_heap.proofs.parts.Parts.put_content.Goals as goal

pub check_content-requires-clause-domain : goal.check_content-requires-clause-domain
check_content-requires-clause-domain g c κs within =
    let h = c.self.inside in
    let rows = g.S.Store.rows h.store in
    let s = heap_state h.birth h.objects h.contents h.frozen rows h.slots.items in
    (s, domain_of rows h.regions h.cells s c.self.invariant)

pub returns-in_err-check_content-clause-answer : goal.returns-in_err-check_content-clause-answer
returns-in_err-check_content-clause-answer g c =
    let h = c.self.inside in
    let rows = g.S.Store.rows h.store in
    let s = heap_state h.birth h.objects h.contents h.frozen rows h.slots.items in
    let view = ap (λ (d : Domain). d.state) c.self.view_is in
    let fault = c.in_err-check_content.field-0.0 in
    let refused : Some fault ≡ refusal_as_content c.args.self.now.state (Some c.in_ok-old.old) c.args.v =
    subst (λ t. Some fault ≡ refusal_as_content t (Some c.in_ok-old.old) c.args.v) view (c.in_err-check_content.ensures.answer s (domain_of rows h.regions h.cells s c.self.invariant)) in
    let left = err_from_is_err_and c.from_residual-in_err-check_content.result c.from_residual-in_err-check_content.ensures.1 in
    ap result_err left.1 ∙ ap Some left.2
    ∙ refused_after c.args.self.now.state c.args.c c.args.key c.in_ok-old.old c.args.v (Some fault) c.in_ok-old.ensures.value c.in_ok-old.ensures.answer refused

pub set_content-requires-clause-allowed : goal.set_content-requires-clause-allowed
set_content-requires-clause-allowed g c κs within =
    let h = c.self.inside in
    let rows = g.S.Store.rows h.store in
    let s = heap_state h.birth h.objects h.contents h.frozen rows h.slots.items in
    let view = ap (λ (d : Domain). d.state) c.self.view_is in
    held_refusal c.args.self.now.state c.args.c c.in_ok-old.old c.in_ok-old.ensures.value c.args.v
    ∙ sym (subst (λ t. None ≡ refusal_as_content t (Some c.in_ok-old.old) c.args.v) view (c.in_ok-check_content.ensures.answer s (domain_of rows h.regions h.cells s c.self.invariant)))

pub returns-clause-answer : goal.returns-clause-answer
returns-clause-answer g c =
    let h = c.self.inside in
    let rows = g.S.Store.rows h.store in
    let s = heap_state h.birth h.objects h.contents h.frozen rows h.slots.items in
    let view = ap (λ (d : Domain). d.state) c.self.view_is in
    let allowed : None ≡ refusal_as_content c.args.self.now.state (Some c.in_ok-old.old) c.args.v =
    subst (λ t. None ≡ refusal_as_content t (Some c.in_ok-old.old) c.args.v) view (c.in_ok-check_content.ensures.answer s (domain_of rows h.regions h.cells s c.self.invariant)) in
    refused_after c.args.self.now.state c.args.c c.args.key c.in_ok-old.old c.args.v None c.in_ok-old.ensures.value c.in_ok-old.ensures.answer allowed
