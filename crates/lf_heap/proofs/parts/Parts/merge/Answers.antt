use Rattle.std.proofs.Common.{None, ap, subst, sym, ◌∙◌, ◌≡◌}
use Rattle.lf_base.specs.HeapCalls.{merged_by}
use Rattle.lf_base.specs.MergeResult.{merge_refusal, merge_result}
use Rattle.lf_base.specs.Owners.{bridge_of}
use Rattle.lf_barrier.specs.WritePlans.{FailsAs}
use Rattle.lf_domain.specs.Counts.{IsDomain}
use Rattle.lf_heap.specs.Following.{Follows}
use Rattle.lf_heap.specs.Heaps.{Domain, heap_state}
use Rattle.lf_heap.proofs.Regions.MergedParts.{merge_follows, merge_reached, merged_is}
use Rattle.lf_heap.proofs.States.StoredStates.{Reached, domain_of, same_reached}
use Rattle.lf_heap.proofs.parts.Parts.merge.Goals as goal

pub plan_merge-planned-requires-clause-domain : goal.plan_merge-planned-requires-clause-domain
plan_merge-planned-requires-clause-domain g c κs within =
    let h = c.self.inside in
    let rows = g.S.Store.rows h.store in
    let s = heap_state h.birth h.objects h.contents h.frozen rows h.slots.items in
    (s, domain_of rows h.regions h.cells s c.self.invariant)

pub invariant_of-self : goal.invariant_of-self
invariant_of-self g c =
    let h = c.self.inside in
    let rows = g.S.Store.rows h.store in
    let s = heap_state h.birth h.objects h.contents h.frozen rows h.slots.items in
    (same_reached rows h.regions h.cells s c.self.invariant (g.S.Store.rows c.plan_merge-planned.new.store) c.plan_merge-planned.ensures.rows).parts

pub returns-in-Err-clause-answer : goal.returns-in-Err-clause-answer
returns-in-Err-clause-answer g c =
    let h = c.self.inside in
    let rows = g.S.Store.rows h.store in
    let s = heap_state h.birth h.objects h.contents h.frozen rows h.slots.items in
    subst (λ (d : Domain). FailsAs (merge_refusal d.state c.args.a c.args.b) c.in-Err.fail) c.self.view_is
    (c.in-Err.ensures.answer s (domain_of rows h.regions h.cells s c.self.invariant))

pub returns-in-Err-clause-unchanged : goal.returns-in-Err-clause-unchanged
returns-in-Err-clause-unchanged g c =
    let h = c.self.inside in
    let rows = g.S.Store.rows h.store in
    let s = heap_state h.birth h.objects h.contents h.frozen rows h.slots.items in
    (same_reached rows h.regions h.cells s c.self.invariant (g.S.Store.rows c.plan_merge-planned.new.store) c.plan_merge-planned.ensures.rows).is
    ∙ ap (λ (d : Domain). d.state) c.self.view_is

pub apply_merge-requires-clause-planned : goal.apply_merge-requires-clause-planned
apply_merge-requires-clause-planned g c κs within =
    let h = c.self.inside in
    let rows = g.S.Store.rows h.store in
    let s = heap_state h.birth h.objects h.contents h.frozen rows h.slots.items in
    let now = g.S.Store.rows c.plan_merge-planned.new.store in
    let held = same_reached rows h.regions h.cells s c.self.invariant now c.plan_merge-planned.ensures.rows in
    let domain = subst (IsDomain now h.regions) held.is (domain_of now h.regions h.cells (heap_state h.birth h.objects h.contents h.frozen now h.slots.items) held.parts) in
    (s, (domain, c.in-Ok.ensures.plan s (domain_of rows h.regions h.cells s c.self.invariant)))

after : (g : _) (c : goal.After-note g)
    → Reached (g.S.Store.rows c.apply_merge.new.store) c.apply_merge.new.regions c.self.inside.cells
    (merge_result (heap_state c.self.inside.birth c.self.inside.objects c.self.inside.contents c.self.inside.frozen (g.S.Store.rows c.self.inside.store) c.self.inside.slots.items) c.in-Ok.plan.into c.in-Ok.plan.from)
after g c =
    let h = c.self.inside in
    let rows = g.S.Store.rows h.store in
    let s = heap_state h.birth h.objects h.contents h.frozen rows h.slots.items in
    let now = g.S.Store.rows c.plan_merge-planned.new.store in
    let held = same_reached rows h.regions h.cells s c.self.invariant now c.plan_merge-planned.ensures.rows in
    let before = domain_of rows h.regions h.cells s c.self.invariant in
    let domain = subst (IsDomain now h.regions) held.is (domain_of now h.regions h.cells (heap_state h.birth h.objects h.contents h.frozen now h.slots.items) held.parts) in
    merge_reached rows h.regions h.cells s c.self.invariant c.args.a c.args.b c.in-Ok.plan.into c.in-Ok.plan.from (c.in-Ok.ensures.into s before) (c.in-Ok.ensures.from s before)
    (c.in-Ok.ensures.answer s before) (g.S.Store.rows c.apply_merge.new.store) c.apply_merge.new.regions (c.apply_merge.ensures.counts s domain (c.in-Ok.ensures.plan s before))

pub invariant_of-self-2 : goal.invariant_of-self-2
invariant_of-self-2 g c = (after g c).parts

pub returns-clause-answer : goal.returns-clause-answer
returns-clause-answer g c =
    let h = c.self.inside in
    let rows = g.S.Store.rows h.store in
    let s = heap_state h.birth h.objects h.contents h.frozen rows h.slots.items in
    subst (λ (d : Domain). merge_refusal d.state c.args.a c.args.b ≡ None) c.self.view_is
    (c.in-Ok.ensures.answer s (domain_of rows h.regions h.cells s c.self.invariant))

pub returns-clause-state : goal.returns-clause-state
returns-clause-state g c =
    let h = c.self.inside in
    let rows = g.S.Store.rows h.store in
    let s = heap_state h.birth h.objects h.contents h.frozen rows h.slots.items in
    let before = domain_of rows h.regions h.cells s c.self.invariant in
    (after g c).is ∙ merged_is s c.args.a c.args.b c.in-Ok.plan.into c.in-Ok.plan.from (c.in-Ok.ensures.into s before) (c.in-Ok.ensures.from s before)
    ∙ ap (λ (d : Domain). merged_by (bridge_of d.state c.args.a) (bridge_of d.state c.args.b) d.state) c.self.view_is

pub returns-clause-follows : goal.returns-clause-follows
returns-clause-follows g c =
    let h = c.self.inside in
    let rows = g.S.Store.rows h.store in
    let s = heap_state h.birth h.objects h.contents h.frozen rows h.slots.items in
    let before = domain_of rows h.regions h.cells s c.self.invariant in
    let end = heap_state h.birth h.objects h.contents h.frozen (g.S.Store.rows c.apply_merge.new.store) h.slots.items in
    subst (λ (d : Domain). Follows d.state end c.args.work.now c.note.new.work 1) c.self.view_is
    (subst (λ u. Follows s u c.args.work.now c.note.new.work 1) (sym (after g c).is)
    (merge_follows rows h.regions h.cells s c.self.invariant c.args.a c.args.b c.in-Ok.plan.into c.in-Ok.plan.from (c.in-Ok.ensures.into s before) (c.in-Ok.ensures.from s before)
    (c.in-Ok.ensures.answer s before) c.args.work.now c.note.new.work c.note.ensures.suspects c.note.ensures.capacity))
