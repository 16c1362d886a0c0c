use Rattle.std.proofs.Common.{None, Some, ap, false, subst, sym, true, ◌∙◌, ◌≡◌}
use Rattle.lf_base.specs.declared.faults.Fault.TheVariants.{NoField, NotAcquired}
use Rattle.lf_base.specs.declared.values.Value.TheVariants.{Cown}
use Rattle.lf_base.specs.PlainChecks.{cown_refusal}
use Rattle.lf_base.specs.WellFormed.{SlotMayHold}
use Rattle.lf_heap.specs.Heaps.{Domain, heap_state}
use Rattle.lf_heap.proofs.CownContents.ContentWrites.{judged_by_key, refused_unheld}
use Rattle.lf_laws.proofs.Changes.ReadValues.{read_may_be_held}
use Rattle.lf_heap.proofs.parts.Parts.content_of.Goals as goal

pub returns-in_default-clause-answer : goal.returns-in_default-clause-answer
returns-in_default-clause-answer g c =
    let view = ap (λ (d : Domain). d.state) c.self.view_is in
    subst (λ t. Some NotAcquired ≡ cown_refusal t c.args.c c.args.key) view
    (sym (refused_unheld (heap_state c.self.inside.birth c.self.inside.objects c.self.inside.contents c.self.inside.frozen (g.S.Store.rows c.self.inside.store) c.self.inside.slots.items) c.args.c c.args.key
    (sym c.content.ensures ∙ c.in_default.is)))

pub returns-then-not-is_same-clause-answer : goal.returns-then-not-is_same-clause-answer
returns-then-not-is_same-clause-answer g c =
    let view = ap (λ (d : Domain). d.state) c.self.view_is in
    subst (λ t. Some NoField ≡ cown_refusal t c.args.c c.args.key) view
    (sym (judged_by_key (heap_state c.self.inside.birth c.self.inside.objects c.self.inside.contents c.self.inside.frozen (g.S.Store.rows c.self.inside.store) c.self.inside.slots.items) c.args.c c.args.key
    c.in-Some.v false (sym c.in-Some.ensures) c.if-not-is_same.ensures))

pub returns-clause-answer : goal.returns-clause-answer
returns-clause-answer g c =
    let view = ap (λ (d : Domain). d.state) c.self.view_is in
    subst (λ t. None ≡ cown_refusal t c.args.c c.args.key) view
    (sym (judged_by_key (heap_state c.self.inside.birth c.self.inside.objects c.self.inside.contents c.self.inside.frozen (g.S.Store.rows c.self.inside.store) c.self.inside.slots.items) c.args.c c.args.key
    c.in-Some.v true (sym c.in-Some.ensures) c.if-not-is_same.ensures))

pub returns-clause-may : goal.returns-clause-may
returns-clause-may g c =
    let view = ap (λ (d : Domain). d.state) c.self.view_is in
    subst (λ t. SlotMayHold t c.in-Some.v) view
    (read_may_be_held (heap_state c.self.inside.birth c.self.inside.objects c.self.inside.contents c.self.inside.frozen (g.S.Store.rows c.self.inside.store) c.self.inside.slots.items) (Cown c.args.c) (Some c.args.key)
    c.in-Some.v (c.self.invariant.counted).well_formed (sym c.in-Some.ensures))
