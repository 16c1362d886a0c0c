use Rattle.std.proofs.Common.{ap, arith, drop, length, subst, sym, take, ◌++◌, ◌∙◌, ◌≡◌}
use Rattle.lf_base.specs.declared.ids.ObjId.{ObjId}
use Rattle.lf_base.specs.CloseResult.{close_refusal, close_result}
use Rattle.lf_transfer.specs.Closing.{HoldsBridge, IsOpenedBy}
use Rattle.lf_heap.specs.Following.{Follows, closed_at}
use Rattle.lf_heap.specs.Heaps.{Domain, heap_state}
use Rattle.lf_heap.proofs.Regions.ClosedParts.{held_bridge, close_follows, close_is, close_parts, closed_is, few_loose, opened, rows_are, written_back}
use Rattle.lf_heap.proofs.parts.Parts.close.Goals as goal

pub close-closed-requires-clause-opened : goal.close-closed-requires-clause-opened
close-closed-requires-clause-opened g c κs within =
    let h = c.self.inside in
    let rows = g.S.Store.rows h.store in (
      heap_state h.birth h.objects h.contents h.frozen rows h.slots.items,
      opened h.birth h.objects h.contents h.frozen rows h.slots.items h.regions h.cells c.self.invariant c.as_mut_slice.result.now c.as_mut_slice.ensures.value,
    )

pub close-closed-requires-clause-room : goal.close-closed-requires-clause-room
close-closed-requires-clause-room g c κs within =
    let h = c.self.inside in
    omega (
      arith,
      c.requires.listed,
      rows_are h.birth h.objects h.contents h.frozen (g.S.Store.rows h.store) h.slots.items h.regions h.cells c.self.invariant,
      ap (λ (d : Domain). length d.state.rows) c.self.view_is,
    )

pub returns-in-Err-clause-answer : goal.returns-in-Err-clause-answer
returns-in-Err-clause-answer g c =
    let h = c.self.inside in
    let rows = g.S.Store.rows h.store in
    c.in-Err.ensures.answer (heap_state h.birth h.objects h.contents h.frozen rows h.slots.items)
    (opened h.birth h.objects h.contents h.frozen rows h.slots.items h.regions h.cells c.self.invariant c.as_mut_slice.result.now c.as_mut_slice.ensures.value)
    ∙ ap (λ (d : Domain). close_refusal d.state c.args.at) c.self.view_is

pub suspect_all-requires : goal.suspect_all-requires
suspect_all-requires g c =
    let h = c.self.inside in
    let rows = g.S.Store.rows h.store in
    let s = heap_state h.birth h.objects h.contents h.frozen rows h.slots.items in
    let before = opened h.birth h.objects h.contents h.frozen rows h.slots.items h.regions h.cells c.self.invariant c.as_mut_slice.result.now c.as_mut_slice.ensures.value in
    let held = held_bridge s c.args.at (sym (c.in_default.ensures.answer s before)) in
    omega (
      arith,
      few_loose h.birth h.objects h.contents h.frozen rows h.slots.items h.regions h.cells c.self.invariant c.args.at held.0 held.1 c.args.loose.now.names c.close-closed.new.work.names
          c.requires.none (c.close-closed.ensures.loose s held.0 before held.1),
      c.requires.room,
      ap (λ (d : Domain). length d.state.rows) c.self.view_is,
    )

-- ---- what the close gave
module _ (g : _) (c : goal.After-suspect_all g) where
  before : IsOpenedBy (g.S.Store.rows c.self.inside.store) c.self.inside.regions c.as_mut_slice.result.now
      (heap_state c.self.inside.birth c.self.inside.objects c.self.inside.contents c.self.inside.frozen (g.S.Store.rows c.self.inside.store) c.self.inside.slots.items)
  before =
      let h = c.self.inside in
      opened h.birth h.objects h.contents h.frozen (g.S.Store.rows h.store) h.slots.items h.regions h.cells c.self.invariant c.as_mut_slice.result.now c.as_mut_slice.ensures.value

  held : (r : ObjId) × HoldsBridge (heap_state c.self.inside.birth c.self.inside.objects c.self.inside.contents c.self.inside.frozen (g.S.Store.rows c.self.inside.store) c.self.inside.slots.items) c.args.at r
  held =
      let h = c.self.inside in
      let s = heap_state h.birth h.objects h.contents h.frozen (g.S.Store.rows h.store) h.slots.items in
      held_bridge s c.args.at (sym (c.in_default.ensures.answer s before))

  put : take c.self.inside.slots.len (c.close-closed.new.slots ++ drop (length c.close-closed.new.slots) c.self.inside.slots.items)
      ≡ (close_result (heap_state c.self.inside.birth c.self.inside.objects c.self.inside.contents c.self.inside.frozen (g.S.Store.rows c.self.inside.store) c.self.inside.slots.items) c.args.at held.0).slots
  put =
      let h = c.self.inside in
      let s = heap_state h.birth h.objects h.contents h.frozen (g.S.Store.rows h.store) h.slots.items in
      written_back h.slots.items c.close-closed.new.slots h.slots.len (sym c.as_mut_slice.ensures.len ∙ ap length c.as_mut_slice.ensures.value) (c.close-closed.ensures.length ∙ ap length c.as_mut_slice.ensures.value)
      ∙ c.close-closed.ensures.slots s held.0 before held.1

  becomes : heap_state c.self.inside.birth c.self.inside.objects c.self.inside.contents c.self.inside.frozen (g.S.Store.rows c.close-closed.new.store)
      (take c.self.inside.slots.len (c.close-closed.new.slots ++ drop (length c.close-closed.new.slots) c.self.inside.slots.items))
      ≡ close_result (heap_state c.self.inside.birth c.self.inside.objects c.self.inside.contents c.self.inside.frozen (g.S.Store.rows c.self.inside.store) c.self.inside.slots.items) c.args.at held.0
  becomes =
      let h = c.self.inside in
      let rows = g.S.Store.rows h.store in
      let s = heap_state h.birth h.objects h.contents h.frozen rows h.slots.items in
      close_is h.birth h.objects h.contents h.frozen rows h.slots.items h.regions h.cells c.self.invariant c.args.at held.0 held.1
      (g.S.Store.rows c.close-closed.new.store) c.close-closed.new.regions (c.close-closed.ensures.counts s held.0 before held.1) _ put

pub invariant_of-self-2 : goal.invariant_of-self-2
invariant_of-self-2 g c =
    let h = c.self.inside in
    let rows = g.S.Store.rows h.store in
    let s = heap_state h.birth h.objects h.contents h.frozen rows h.slots.items in
    let r = held g c in
    close_parts h.birth h.objects h.contents h.frozen rows h.slots.items h.regions h.cells c.self.invariant c.args.at r.0 r.1
    (g.S.Store.rows c.close-closed.new.store) c.close-closed.new.regions (c.close-closed.ensures.counts s r.0 (before g c) r.1) _ (put g c)

pub returns-clause-answer : goal.returns-clause-answer
returns-clause-answer g c =
    let h = c.self.inside in
    let s = heap_state h.birth h.objects h.contents h.frozen (g.S.Store.rows h.store) h.slots.items in
    c.in_default.ensures.answer s (before g c) ∙ ap (λ (d : Domain). close_refusal d.state c.args.at) c.self.view_is

pub returns-clause-state : goal.returns-clause-state
returns-clause-state g c =
    let h = c.self.inside in
    let r = held g c in
    becomes g c
    ∙ closed_is h.birth h.objects h.contents h.frozen (g.S.Store.rows h.store) h.slots.items h.regions h.cells c.self.invariant c.args.at r.0 r.1
    ∙ ap (λ (d : Domain). closed_at c.args.at d.state) c.self.view_is

pub returns-clause-follows : goal.returns-clause-follows
returns-clause-follows g c =
    let h = c.self.inside in
    let rows = g.S.Store.rows h.store in
    let s = heap_state h.birth h.objects h.contents h.frozen rows h.slots.items in
    let r = held g c in
    let now = take h.slots.len (c.close-closed.new.slots ++ drop (length c.close-closed.new.slots) h.slots.items) in
    let end = heap_state h.birth h.objects h.contents h.frozen (g.S.Store.rows c.close-closed.new.store) now in
    subst (λ (d : Domain). Follows d.state end c.args.work.now c.suspect_all.new.work (length d.state.rows)) c.self.view_is
    (subst (λ u. Follows s u c.args.work.now c.suspect_all.new.work (length s.rows)) (sym (becomes g c))
    (close_follows h.birth h.objects h.contents h.frozen rows h.slots.items h.regions h.cells c.self.invariant c.args.at r.0 r.1 c.args.loose.now.names c.close-closed.new.work.names c.requires.none
    (c.close-closed.ensures.loose s r.0 (before g c) r.1) c.args.work.now c.suspect_all.new.work c.suspect_all.ensures.suspects c.suspect_all.ensures.capacity))
