use Rattle.std.proofs.Common.{ap, length, subst, sym, ◌*◌, ◌<◌, ◌^◌, ◌∙◌, ◌≡◌, ◌≤◌}
use Rattle.lf_base.specs.declared.faults.Fault.TheVariants.{Unset}
use Rattle.lf_base.specs.Asking.{Answered, NotAnswered, asked, asked_by, asked_of, fault_of_question}
use Rattle.lf_heap.specs.Heaps.{Domain, heap_state}
use Rattle.lf_heap.proofs.Slots.SlotPlaces.{slot_found}
use Rattle.lf_heap.proofs.States.StoredStates.{domain_of}
use Rattle.lf_heap.proofs.parts.Parts.ask.Goals as goal

pub returns-in_default-clause-answer : goal.returns-in_default-clause-answer
returns-in_default-clause-answer g c =
    let h = c.self.inside in
    let rows = g.S.Store.rows h.store in
    let s = heap_state h.birth h.objects h.contents h.frozen rows h.slots.items in
    let there = subst (λ l. c.args.at < length l) (sym (ap (λ (d : Domain). d.state.slots) c.self.view_is)) c.requires.there in
    let slot = slot_found h.slots.items c.args.at c.index.result.now there c.index.ensures in
    subst (λ (d : Domain). asked d.state c.args.question c.args.at ≡ NotAnswered Unset) c.self.view_is
    (ap (asked_of s c.args.question c.args.at) (slot ∙ c.in_default.is))

pub answer_alone-answer-requires-clause-domain : goal.answer_alone-answer-requires-clause-domain
answer_alone-answer-requires-clause-domain g c κs within =
    let h = c.self.inside in
    let rows = g.S.Store.rows h.store in
    let s = heap_state h.birth h.objects h.contents h.frozen rows h.slots.items in
    (s, (domain_of rows h.regions h.cells s c.self.invariant, subst (λ (d : Domain). 2 * length d.state.rows ≤ c.args.found.now.spare) (sym c.self.view_is) c.requires.room))

pub returns-in-Some-answer-clause-answer : goal.returns-in-Some-answer-clause-answer
returns-in-Some-answer-clause-answer g c =
    let h = c.self.inside in
    let rows = g.S.Store.rows h.store in
    let s = heap_state h.birth h.objects h.contents h.frozen rows h.slots.items in
    let there = subst (λ l. c.args.at < length l) (sym (ap (λ (d : Domain). d.state.slots) c.self.view_is)) c.requires.there in
    let slot = slot_found h.slots.items c.args.at c.index.result.now there c.index.ensures in
    let told = c.answer_alone-answer.ensures.answer s c.args.at (domain_of rows h.regions h.cells s c.self.invariant) there (slot ∙ c.in-Some.is) in
    subst (λ (d : Domain). asked d.state c.args.question c.args.at ≡ Answered c.in-Some-answer.answer) c.self.view_is
    (ap (asked_of s c.args.question c.args.at) (slot ∙ c.in-Some.is) ∙ ap (asked_by (fault_of_question c.args.question)) (sym told ∙ c.in-Some-answer.is))

pub returns-in-None-clause-answer : goal.returns-in-None-clause-answer
returns-in-None-clause-answer g c =
    let h = c.self.inside in
    let rows = g.S.Store.rows h.store in
    let s = heap_state h.birth h.objects h.contents h.frozen rows h.slots.items in
    let there = subst (λ l. c.args.at < length l) (sym (ap (λ (d : Domain). d.state.slots) c.self.view_is)) c.requires.there in
    let slot = slot_found h.slots.items c.args.at c.index.result.now there c.index.ensures in
    let told = c.answer_alone-answer.ensures.answer s c.args.at (domain_of rows h.regions h.cells s c.self.invariant) there (slot ∙ c.in-Some.is) in
    subst (λ (d : Domain). asked d.state c.args.question c.args.at ≡ NotAnswered c.fault_of.result) c.self.view_is
    (ap (asked_of s c.args.question c.args.at) (slot ∙ c.in-Some.is) ∙ ap (asked_by (fault_of_question c.args.question)) (sym told ∙ c.in-None.is) ∙ ap NotAnswered (sym c.fault_of.ensures))

pub returns-in-Some-answer-clause-few : goal.returns-in-Some-answer-clause-few
returns-in-Some-answer-clause-few g c =
    let h = c.self.inside in
    let rows = g.S.Store.rows h.store in
    let s = heap_state h.birth h.objects h.contents h.frozen rows h.slots.items in
    c.in-Some-answer.ensures.few s (domain_of rows h.regions h.cells s c.self.invariant) (subst (λ (d : Domain). length d.state.rows ≤ 2 ^ 61) (sym c.self.view_is) c.requires.few)
