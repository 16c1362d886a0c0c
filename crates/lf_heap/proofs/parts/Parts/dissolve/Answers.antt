use Rattle.std.proofs.Common.{None, ap, subst, sym, ◌∙◌, ◌≡◌}
use Rattle.lf_base.specs.DissolveResult.{dissolve_refusal, dissolve_result}
use Rattle.lf_base.specs.HeapCalls.{on_bridge}
use Rattle.lf_base.specs.Noticing.{InSlot}
use Rattle.lf_base.specs.Owners.{bridge_of}
use Rattle.lf_barrier.specs.WritePlans.{FailsAs}
use Rattle.lf_domain.specs.Counts.{IsDomain}
use Rattle.lf_heap.specs.Following.{Follows}
use Rattle.lf_heap.specs.Heaps.{Domain, heap_state}
use Rattle.lf_heap.proofs.Regions.BridgeValues.{bridge_value}
use Rattle.lf_heap.proofs.Regions.DissolvedParts.{dissolve_follows, dissolve_reached, dissolved_is}
use Rattle.lf_heap.proofs.States.StoredStates.{Reached, domain_of, same_reached}
use Rattle.lf_heap.proofs.parts.Parts.dissolve.Goals as goal

pub plan_dissolve-planned-requires-clause-domain : goal.plan_dissolve-planned-requires-clause-domain
plan_dissolve-planned-requires-clause-domain g c κs within =
    let h = c.self.inside in
    let rows = g.S.Store.rows h.store in
    let s = heap_state h.birth h.objects h.contents h.frozen rows h.slots.items in
    (s, domain_of rows h.regions h.cells s c.self.invariant)

pub invariant_of-self : goal.invariant_of-self
invariant_of-self g c =
    let h = c.self.inside in
    let rows = g.S.Store.rows h.store in
    let s = heap_state h.birth h.objects h.contents h.frozen rows h.slots.items in
    (same_reached rows h.regions h.cells s c.self.invariant (g.S.Store.rows c.plan_dissolve-planned.new.store) c.plan_dissolve-planned.ensures.rows).parts

pub returns-in-Err-clause-answer : goal.returns-in-Err-clause-answer
returns-in-Err-clause-answer g c =
    let h = c.self.inside in
    let rows = g.S.Store.rows h.store in
    let s = heap_state h.birth h.objects h.contents h.frozen rows h.slots.items in
    subst (λ (d : Domain). FailsAs (dissolve_refusal d.state c.args.r) c.in-Err.fail) c.self.view_is
    (c.in-Err.ensures.answer s (domain_of rows h.regions h.cells s c.self.invariant))

pub returns-in-Err-clause-unchanged : goal.returns-in-Err-clause-unchanged
returns-in-Err-clause-unchanged g c =
    let h = c.self.inside in
    let rows = g.S.Store.rows h.store in
    let s = heap_state h.birth h.objects h.contents h.frozen rows h.slots.items in
    (same_reached rows h.regions h.cells s c.self.invariant (g.S.Store.rows c.plan_dissolve-planned.new.store) c.plan_dissolve-planned.ensures.rows).is
    ∙ ap (λ (d : Domain). d.state) c.self.view_is

pub apply_dissolve-requires-clause-planned : goal.apply_dissolve-requires-clause-planned
apply_dissolve-requires-clause-planned g c κs within =
    let h = c.self.inside in
    let rows = g.S.Store.rows h.store in
    let s = heap_state h.birth h.objects h.contents h.frozen rows h.slots.items in
    let now = g.S.Store.rows c.plan_dissolve-planned.new.store in
    let held = same_reached rows h.regions h.cells s c.self.invariant now c.plan_dissolve-planned.ensures.rows in
    let domain = subst (IsDomain now h.regions) held.is (domain_of now h.regions h.cells (heap_state h.birth h.objects h.contents h.frozen now h.slots.items) held.parts) in
    (s, (domain, c.in-Ok.ensures.plan s (domain_of rows h.regions h.cells s c.self.invariant)))

after : (g : _) (c : goal.After-apply_dissolve g)
    → Reached (g.S.Store.rows c.apply_dissolve.new.store) c.apply_dissolve.new.regions c.self.inside.cells
    (dissolve_result (heap_state c.self.inside.birth c.self.inside.objects c.self.inside.contents c.self.inside.frozen (g.S.Store.rows c.self.inside.store) c.self.inside.slots.items) c.in-Ok.plan.region)
after g c =
    let h = c.self.inside in
    let rows = g.S.Store.rows h.store in
    let s = heap_state h.birth h.objects h.contents h.frozen rows h.slots.items in
    let now = g.S.Store.rows c.plan_dissolve-planned.new.store in
    let held = same_reached rows h.regions h.cells s c.self.invariant now c.plan_dissolve-planned.ensures.rows in
    let before = domain_of rows h.regions h.cells s c.self.invariant in
    let domain = subst (IsDomain now h.regions) held.is (domain_of now h.regions h.cells (heap_state h.birth h.objects h.contents h.frozen now h.slots.items) held.parts) in
    dissolve_reached rows h.regions h.cells s c.self.invariant c.args.r c.in-Ok.plan.region (c.in-Ok.ensures.region s before)
    (c.in-Ok.ensures.answer s before) (g.S.Store.rows c.apply_dissolve.new.store) c.apply_dissolve.new.regions (c.apply_dissolve.ensures.counts s domain (c.in-Ok.ensures.plan s before))

pub invariant_of-self-2 : goal.invariant_of-self-2
invariant_of-self-2 g c = (after g c).parts

pub returns-clause-answer : goal.returns-clause-answer
returns-clause-answer g c =
    let h = c.self.inside in
    let rows = g.S.Store.rows h.store in
    let s = heap_state h.birth h.objects h.contents h.frozen rows h.slots.items in
    subst (λ (d : Domain). dissolve_refusal d.state c.args.r ≡ None) c.self.view_is
    (c.in-Ok.ensures.answer s (domain_of rows h.regions h.cells s c.self.invariant))

pub returns-clause-state : goal.returns-clause-state
returns-clause-state g c =
    let h = c.self.inside in
    let rows = g.S.Store.rows h.store in
    let s = heap_state h.birth h.objects h.contents h.frozen rows h.slots.items in
    let before = domain_of rows h.regions h.cells s c.self.invariant in
    (after g c).is ∙ dissolved_is s c.args.r c.in-Ok.plan.region (c.in-Ok.ensures.region s before)
    ∙ ap (λ (d : Domain). on_bridge (bridge_of d.state c.args.r) (dissolve_result d.state) d.state) c.self.view_is

pub returns-clause-follows : goal.returns-clause-follows
returns-clause-follows g c =
    let h = c.self.inside in
    let rows = g.S.Store.rows h.store in
    let s = heap_state h.birth h.objects h.contents h.frozen rows h.slots.items in
    let before = domain_of rows h.regions h.cells s c.self.invariant in
    let end = heap_state h.birth h.objects h.contents h.frozen (g.S.Store.rows c.apply_dissolve.new.store) h.slots.items in
    let region = c.in-Ok.ensures.region s before in
    let named = subst (λ (d : Domain). InSlot d.state c.in-Ok.plan.region) (sym c.self.view_is) (c.requires.named c.in-Ok.plan.region (bridge_value s c.args.r c.in-Ok.plan.region region)) in
    λ work. subst (λ (d : Domain). Follows d.state end work work 0) c.self.view_is
    (subst (λ u. Follows s u work work 0) (sym (after g c).is)
    (dissolve_follows rows h.regions h.cells s c.self.invariant c.args.r c.in-Ok.plan.region region (c.in-Ok.ensures.answer s before) named work))
