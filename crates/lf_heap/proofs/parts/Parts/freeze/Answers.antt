use Rattle.std.proofs.Common.{[], ap, arith, filter, length, reverse, subst, sym, ◌++◌, ◌∙◌, ◌≡◌, ◌≤◌}
use Rattle.lf_base.specs.FreezeResult.{freeze_result}
use Rattle.lf_base.specs.Noticing.{Noticed}
use Rattle.lf_base.specs.PlainState.{State}
use Rattle.lf_domain.specs.Counts.{CountsOf}
use Rattle.lf_transfer.specs.Freezing.{IsFreezeOf, is_bare_region}
use Rattle.lf_transfer.specs.LooseNames.{LooseNames}
use Rattle.lf_heap.specs.Heaps.{Domain, heap_state}
use Rattle.lf_heap.proofs.Regions.FrozenParts.{few_named, freeze_is, freeze_noticed, freeze_parts, no_more_rows, own_frozen}
use Rattle.lf_heap.proofs.States.StoredStates.{domain_of}
use Rattle.lf_heap.proofs.parts.Parts.freeze.Goals as goal

pub plan_freeze-requires-clause-domain : goal.plan_freeze-requires-clause-domain
plan_freeze-requires-clause-domain g c κs within =
    let h = c.self.inside in
    let rows = g.S.Store.rows h.store in
    let s = heap_state h.birth h.objects h.contents h.frozen rows h.slots.items in
    (s, (domain_of rows h.regions h.cells s c.self.invariant, own_frozen h.birth h.objects h.contents h.frozen rows h.slots.items))

pub apply_freeze-requires-clause-planned : goal.apply_freeze-requires-clause-planned
apply_freeze-requires-clause-planned g c κs within =
    let h = c.self.inside in
    let rows = g.S.Store.rows h.store in
    let s = heap_state h.birth h.objects h.contents h.frozen rows h.slots.items in
    let domain = domain_of rows h.regions h.cells s c.self.invariant in
    (s, (c.args.v, (domain, c.in_ok-plan.ensures.plan s domain (own_frozen h.birth h.objects h.contents h.frozen rows h.slots.items))))

-- ---- what was planned, and what is there then
module _ (g : _) (c : goal.After-suspect_regions g) where
  planned : IsFreezeOf (heap_state c.self.inside.birth c.self.inside.objects c.self.inside.contents c.self.inside.frozen (g.S.Store.rows c.self.inside.store) c.self.inside.slots.items)
      c.self.inside.frozen.own c.args.v c.in_ok-plan.plan
  planned =
      let h = c.self.inside in
      let rows = g.S.Store.rows h.store in
      let s = heap_state h.birth h.objects h.contents h.frozen rows h.slots.items in
      c.in_ok-plan.ensures.plan s (domain_of rows h.regions h.cells s c.self.invariant) (own_frozen h.birth h.objects h.contents h.frozen rows h.slots.items)

  counts : CountsOf (g.S.Store.rows c.apply_freeze.new.store) c.apply_freeze.new.regions
      (freeze_result (heap_state c.self.inside.birth c.self.inside.objects c.self.inside.contents c.self.inside.frozen (g.S.Store.rows c.self.inside.store) c.self.inside.slots.items) c.args.v)
  counts =
      let h = c.self.inside in
      let rows = g.S.Store.rows h.store in
      let s = heap_state h.birth h.objects h.contents h.frozen rows h.slots.items in
      c.apply_freeze.ensures.counts s c.args.v (domain_of rows h.regions h.cells s c.self.invariant) planned

  named : c.apply_freeze.new.work.names
      ≡ reverse (filter (is_bare_region (freeze_result (heap_state c.self.inside.birth c.self.inside.objects c.self.inside.contents c.self.inside.frozen (g.S.Store.rows c.self.inside.store) c.self.inside.slots.items) c.args.v))
      c.in_ok-plan.plan.regions) ++ []
  named =
      let h = c.self.inside in
      let rows = g.S.Store.rows h.store in
      let s = heap_state h.birth h.objects h.contents h.frozen rows h.slots.items in
      c.apply_freeze.ensures.named s c.args.v (domain_of rows h.regions h.cells s c.self.invariant) planned
      ∙ ap (λ os. reverse (filter (is_bare_region (freeze_result s c.args.v)) c.in_ok-plan.plan.regions) ++ os)
      (c.reserve.ensures.names ∙ ap (λ (l : LooseNames). l.names) c.new-bare.ensures)

  few : length c.apply_freeze.new.work.names ≤ length c.in_ok-plan.plan.regions
  few =
      let h = c.self.inside in
      few_named h.birth h.objects h.contents h.frozen (g.S.Store.rows h.store) h.slots.items h.regions h.cells c.self.invariant c.args.v c.in_ok-plan.plan planned c.apply_freeze.new.work.names named

  becomes : heap_state c.self.inside.birth c.self.inside.objects c.self.inside.contents (record { given = c.self.inside.frozen.given; own = c.apply_freeze.new.frozen }) (g.S.Store.rows c.apply_freeze.new.store)
      c.self.inside.slots.items
      ≡ freeze_result (heap_state c.self.inside.birth c.self.inside.objects c.self.inside.contents c.self.inside.frozen (g.S.Store.rows c.self.inside.store) c.self.inside.slots.items) c.args.v
  becomes =
      let h = c.self.inside in
      freeze_is h.birth h.objects h.contents h.frozen (g.S.Store.rows h.store) h.slots.items h.regions h.cells c.self.invariant c.args.v c.in_ok-plan.plan planned
      c.apply_freeze.new.frozen c.apply_freeze.ensures.frozen (g.S.Store.rows c.apply_freeze.new.store) c.apply_freeze.new.regions counts

pub suspect_regions-requires : goal.suspect_regions-requires
suspect_regions-requires g c =
    let h = c.self.inside in
    let rows = g.S.Store.rows h.store in
    let s = heap_state h.birth h.objects h.contents h.frozen rows h.slots.items in
    let domain = domain_of rows h.regions h.cells s c.self.invariant in
    let is_plan = c.in_ok-plan.ensures.plan s domain (own_frozen h.birth h.objects h.contents h.frozen rows h.slots.items) in
    let names_are = c.apply_freeze.ensures.named s c.args.v domain is_plan
    ∙ ap (λ os. reverse (filter (is_bare_region (freeze_result s c.args.v)) c.in_ok-plan.plan.regions) ++ os)
    (c.reserve.ensures.names ∙ ap (λ (l : LooseNames). l.names) c.new-bare.ensures) in
    let fewer = few_named h.birth h.objects h.contents h.frozen rows h.slots.items h.regions h.cells c.self.invariant c.args.v c.in_ok-plan.plan is_plan c.apply_freeze.new.work.names names_are in
    omega (arith, fewer, c.regions-losing.ensures, c.in_ok-watch_rows.ensures.enough)

pub invariant_of-self : goal.invariant_of-self
invariant_of-self g c =
    let h = c.self.inside in
    freeze_parts h.birth h.objects h.contents h.frozen (g.S.Store.rows h.store) h.slots.items h.regions h.cells c.self.invariant c.args.v c.in_ok-plan.plan (planned g c)
    c.apply_freeze.new.frozen c.apply_freeze.ensures.frozen (g.S.Store.rows c.apply_freeze.new.store) c.apply_freeze.new.regions (counts g c)

pub returns-clause-state : goal.returns-clause-state
returns-clause-state g c = becomes g c ∙ ap (λ (d : Domain). freeze_result d.state c.args.v) c.self.view_is

pub returns-clause-noticed : goal.returns-clause-noticed
returns-clause-noticed g c n =
    let h = c.self.inside in
    let names = c.apply_freeze.new.work.names in
    subst (λ t. Noticed t c.suspect_regions.new.work.suspects) (sym (becomes g c))
    (freeze_noticed h.birth h.objects h.contents h.frozen (g.S.Store.rows h.store) h.slots.items h.regions h.cells c.self.invariant c.args.v c.in_ok-plan.plan (planned g c) names
    c.watch_rows.new.work.suspects c.suspect_regions.new.work.suspects (named g c) c.suspect_regions.ensures.suspects
    (subst (Noticed (heap_state h.birth h.objects h.contents h.frozen (g.S.Store.rows h.store) h.slots.items)) (sym c.watch_rows.ensures.suspects)
    (subst (λ (d : Domain). Noticed d.state c.args.work.now.suspects) (sym c.self.view_is) n)))

pub returns-clause-no_more : goal.returns-clause-no_more
returns-clause-no_more g c =
    let h = c.self.inside in
    omega (
      arith,
      ap (λ (t : State). length t.rows) (becomes g c),
      no_more_rows h.birth h.objects h.contents h.frozen (g.S.Store.rows h.store) h.slots.items h.regions h.cells c.self.invariant c.args.v c.in_ok-plan.plan (planned g c),
      ap (λ (d : Domain). length d.state.rows) c.self.view_is,
    )

pub returns-clause-enough : goal.returns-clause-enough
returns-clause-enough g c = omega (arith, few g c, c.regions-losing.ensures, c.in_ok-watch_rows.ensures.enough, c.suspect_regions.ensures.room)
