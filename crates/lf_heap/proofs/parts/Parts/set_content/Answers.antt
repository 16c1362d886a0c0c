use Rattle.std.proofs.Common.{None, Some, ap, subst, sym, ◌∙◌, ◌≡◌}
use Rattle.lf_base.specs.ContentResult.{content_at, content_refusal, content_result}
use Rattle.lf_base.specs.WellFormed.{SlotMayHold}
use Rattle.lf_heap.specs.Following.{Follows}
use Rattle.lf_heap.specs.Heaps.{Domain, heap_state}
use Rattle.lf_heap.proofs.CownContents.ContentWrites.{may_write, put_follows, put_is, put_parts}
use Rattle.lf_heap.proofs.States.StoredStates.{domain_of}
use Rattle.lf_heap.proofs.parts.Parts.set_content.Goals as goal

pub apply_content-requires-clause-checked : goal.apply_content-requires-clause-checked
apply_content-requires-clause-checked g c κs within =
    let h = c.self.inside in
    let rows = g.S.Store.rows h.store in
    let s = heap_state h.birth h.objects h.contents h.frozen rows h.slots.items in
    let view : s ≡ c.args.self.now.state = ap (λ (d : Domain). d.state) c.self.view_is in
    let was = subst (λ t. content_at t.held c.args.c ≡ Some c.args.old) (sym view) c.requires.was in
    let allowed = subst (λ t. content_refusal t c.args.c c.args.v ≡ None) (sym view) c.requires.allowed in
    (s, (domain_of rows h.regions h.cells s c.self.invariant, may_write s c.args.c c.args.old c.args.v was allowed))

pub invariant_of-self : goal.invariant_of-self
invariant_of-self g c =
    let h = c.self.inside in
    let rows = g.S.Store.rows h.store in
    let s = heap_state h.birth h.objects h.contents h.frozen rows h.slots.items in
    let view : s ≡ c.args.self.now.state = ap (λ (d : Domain). d.state) c.self.view_is in
    let was = subst (λ t. content_at t.held c.args.c ≡ Some c.args.old) (sym view) c.requires.was in
    let may = subst (λ t. SlotMayHold t c.args.v) (sym view) c.requires.may in
    let allowed = subst (λ t. content_refusal t c.args.c c.args.v ≡ None) (sym view) c.requires.allowed in
    let counts = c.apply_content.ensures.held s (domain_of rows h.regions h.cells s c.self.invariant) (may_write s c.args.c c.args.old c.args.v was allowed) was in
    put_parts h.birth h.objects h.contents c.set.new.self h.frozen h.slots.items rows (g.S.Store.rows c.apply_content.new.store) h.regions c.apply_content.new.regions h.cells c.args.c c.args.old c.args.v
    c.self.invariant was may allowed counts c.set.ensures.held c.set.ensures.made

pub returns-clause-state : goal.returns-clause-state
returns-clause-state g c =
    let h = c.self.inside in
    let rows = g.S.Store.rows h.store in
    let s = heap_state h.birth h.objects h.contents h.frozen rows h.slots.items in
    let view : s ≡ c.args.self.now.state = ap (λ (d : Domain). d.state) c.self.view_is in
    let was = subst (λ t. content_at t.held c.args.c ≡ Some c.args.old) (sym view) c.requires.was in
    let may = subst (λ t. SlotMayHold t c.args.v) (sym view) c.requires.may in
    let allowed = subst (λ t. content_refusal t c.args.c c.args.v ≡ None) (sym view) c.requires.allowed in
    let counts = c.apply_content.ensures.held s (domain_of rows h.regions h.cells s c.self.invariant) (may_write s c.args.c c.args.old c.args.v was allowed) was in
    put_is h.birth h.objects h.contents c.set.new.self h.frozen h.slots.items rows (g.S.Store.rows c.apply_content.new.store) h.regions c.apply_content.new.regions h.cells c.args.c c.args.old c.args.v
    c.self.invariant was may allowed counts c.set.ensures.held c.set.ensures.made
    ∙ ap (λ t. content_result t c.args.c c.args.v) view

pub returns-clause-follows : goal.returns-clause-follows
returns-clause-follows g c =
    let h = c.self.inside in
    let rows = g.S.Store.rows h.store in
    let s = heap_state h.birth h.objects h.contents h.frozen rows h.slots.items in
    let view : s ≡ c.args.self.now.state = ap (λ (d : Domain). d.state) c.self.view_is in
    let was = subst (λ t. content_at t.held c.args.c ≡ Some c.args.old) (sym view) c.requires.was in
    let may = subst (λ t. SlotMayHold t c.args.v) (sym view) c.requires.may in
    let allowed = subst (λ t. content_refusal t c.args.c c.args.v ≡ None) (sym view) c.requires.allowed in
    let counts = c.apply_content.ensures.held s (domain_of rows h.regions h.cells s c.self.invariant) (may_write s c.args.c c.args.old c.args.v was allowed) was in
    let next = g.S.Store.rows c.apply_content.new.store in
    subst (λ u. Follows u (heap_state h.birth h.objects c.set.new.self h.frozen next h.slots.items) c.args.work.now c.note.new.work 1) view
    (put_follows h.birth h.objects h.contents c.set.new.self h.frozen h.slots.items rows next h.regions c.apply_content.new.regions h.cells c.args.c c.args.old c.args.v
    c.self.invariant was may allowed counts c.set.ensures.held c.set.ensures.made c.args.work.now c.note.new.work c.note.ensures.suspects c.note.ensures.capacity)
