use Rattle.std.proofs.Common.{ap, arith, length, subst, sym, ◌*◌, ◌∙◌, ◌≡◌, ◌≤◌}
use Rattle.lf_base.specs.Kept.{kept}
use Rattle.lf_base.specs.Noticing.{Noticed}
use Rattle.lf_base.specs.PlainState.{State}
use Rattle.lf_base.specs.SettledStates.{Settled}
use Rattle.lf_heap.specs.Heaps.{Domain, heap_state}
use Rattle.lf_heap.proofs.States.Settling.{can_settle, kept_reached, no_more_rows, settled}
use Rattle.lf_heap.proofs.States.StoredStates.{Reached}
use Rattle.lf_heap.proofs.parts.Parts.settle.Goals as goal

pub settle-requires-clause-state : goal.settle-requires-clause-state
settle-requires-clause-state g c κs within =
    let h = c.self.inside in
    let rows = g.S.Store.rows h.store in
    let s = heap_state h.birth h.objects h.contents h.frozen rows h.slots.items in
    let view : s ≡ c.args.self.now.state = ap (λ (d : Domain). d.state) c.self.view_is in (
      s,
      can_settle rows h.regions h.cells s c.self.invariant c.args.work.now (subst (λ t. Noticed t c.args.work.now.suspects) (sym view) c.requires.noticed)
          (subst (λ (t : State). 2 * length t.rows ≤ c.args.work.now.spare) (sym view) c.requires.room),
    )

after : (g : _) (c : goal.After-settle g)
    → Reached (g.S.Store.rows c.settle.new.store) c.settle.new.regions c.self.inside.cells
    (kept (heap_state c.self.inside.birth c.self.inside.objects c.self.inside.contents c.self.inside.frozen (g.S.Store.rows c.self.inside.store) c.self.inside.slots.items))
after g c =
    let h = c.self.inside in
    let rows = g.S.Store.rows h.store in
    let s = heap_state h.birth h.objects h.contents h.frozen rows h.slots.items in
    let view : s ≡ c.args.self.now.state = ap (λ (d : Domain). d.state) c.self.view_is in
    kept_reached rows h.regions h.cells s c.self.invariant (g.S.Store.rows c.settle.new.store) c.settle.new.regions
    (c.settle.ensures.kept s (can_settle rows h.regions h.cells s c.self.invariant c.args.work.now (subst (λ t. Noticed t c.args.work.now.suspects) (sym view) c.requires.noticed)
    (subst (λ (t : State). 2 * length t.rows ≤ c.args.work.now.spare) (sym view) c.requires.room)))

pub invariant_of-self : goal.invariant_of-self
invariant_of-self g c = (after g c).parts

pub returns-clause-state : goal.returns-clause-state
returns-clause-state g c = (after g c).is ∙ ap (λ (d : Domain). kept d.state) c.self.view_is

pub returns-clause-settled : goal.returns-clause-settled
returns-clause-settled g c =
    let h = c.self.inside in
    let rows = g.S.Store.rows h.store in
    subst Settled (sym (after g c).is) (settled rows h.regions h.cells (heap_state h.birth h.objects h.contents h.frozen rows h.slots.items) c.self.invariant)

pub returns-clause-fewer : goal.returns-clause-fewer
returns-clause-fewer g c =
    let h = c.self.inside in
    let s = heap_state h.birth h.objects h.contents h.frozen (g.S.Store.rows h.store) h.slots.items in
    omega (arith, ap (λ (t : State). length t.rows) (after g c).is, no_more_rows s, ap (λ (d : Domain). length d.state.rows) c.self.view_is)
