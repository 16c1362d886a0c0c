use Rattle.std.proofs.Common.{None, Some, ap, subst, sym, ◌∙◌, ◌≡◌}
use Rattle.lf_base.specs.declared.values.Value.TheVariants as value
use Rattle.lf_base.specs.CloseResult.{leads_into}
use Rattle.lf_base.specs.EdgeLists.{near_edges}
use Rattle.lf_base.specs.Edges.{Slot}
use Rattle.lf_base.specs.PlainChanges.{slot_at}
use Rattle.lf_base.proofs.ListLemmas.Tests.{some_is}
use Rattle.lf_transfer.specs.Closing.{Closing, come_to}
use Rattle.lf_transfer.proofs.Closings.ShutStates.{none_leads_nowhere, other_stays}
use Rattle.lf_transfer.proofs.Closings.SlotPlaces.{put_is_there, set_is_put, slot_found}
use Rattle.lf_transfer.proofs.Closings.SlotSteps.{after_it, slot_closed, slot_may, slot_room}
use Rattle.lf_transfer.proofs.closing.close_slot.Goals as goal

pub returns-in_default-clause-shut : goal.returns-in_default-clause-shut
returns-in_default-clause-shut g c s kept r before other closing v held =
    absurd (let z : None ≡ Some v = sym c.in_default.is ∙ sym (slot_found c.args.slots.now c.args.at None c.requires.there) ∙ held in cc)

pub let_go-requires-clause-may : goal.let_go-requires-clause-may
let_go-requires-clause-may g c κs within into =
    let h = c.requires.closing in
    let held = slot_found c.args.slots.now c.args.at None c.requires.there ∙ c.in-Some.is in
    let rows = g.S.Store.rows c.args.store.now in
    let here = come_to h.0 rows c.args.slots.now in (
      here.rows,
      (
        near_edges here,
        (
          near_edges (after_it h.0 h.1.0 h.1.1.0 c.args.within.now.keys h.1.1.1.0 rows c.args.regions.now c.args.slots.now c.args.names.now h.1.1.1.1.1 c.args.at c.in-Some.v held),
          (Slot, slot_may h.0 h.1.0 h.1.1.0 c.args.within.now.keys h.1.1.1.0 rows c.args.regions.now c.args.slots.now c.args.names.now h.1.1.1.1.1 c.args.at c.in-Some.v held),
        ),
      ),
    )

pub let_go-requires-clause-room : goal.let_go-requires-clause-room
let_go-requires-clause-room g c κs within into =
    let h = c.requires.closing in
    slot_room h.0 h.1.0 h.1.1.0 c.args.within.now.keys h.1.1.1.0 (g.S.Store.rows c.args.store.now) c.args.regions.now c.args.slots.now c.args.names.now h.1.1.1.1.1 c.args.at c.in-Some.v
    (slot_found c.args.slots.now c.args.at None c.requires.there ∙ c.in-Some.is) into

pub returns-then-let_go-clause-closing : goal.returns-then-let_go-clause-closing
returns-then-let_go-clause-closing g c s kept r before other closing =
    let rows = g.S.Store.rows c.args.store.now in
    let held = slot_found c.args.slots.now c.args.at None c.requires.there ∙ c.in-Some.is in
    let here = come_to s rows c.args.slots.now in
    subst (λ l. Closing s kept r c.args.within.now.keys before (g.S.Store.rows c.let_go.new.store) c.let_go.new.regions l c.let_go.new.names) (sym (set_is_put c.args.slots.now c.args.at (Some value.None)))
    (slot_closed s kept r c.args.within.now.keys before rows c.args.regions.now c.args.slots.now c.args.names.now closing c.args.at c.in-Some.v held
    (sym c.let_go.ensures.leads ∙ c.if-let_go.true) other (g.S.Store.rows c.let_go.new.store) c.let_go.new.regions
    (c.let_go.ensures.counted c.if-let_go.true here.rows (near_edges here) (near_edges (after_it s kept r c.args.within.now.keys before rows c.args.regions.now c.args.slots.now c.args.names.now closing c.args.at c.in-Some.v held)) Slot
    (slot_may s kept r c.args.within.now.keys before rows c.args.regions.now c.args.slots.now c.args.names.now closing c.args.at c.in-Some.v held))
    c.let_go.new.names (c.let_go.ensures.named c.if-let_go.true) c.let_go.ensures.capacity)

pub returns-then-let_go-clause-shut : goal.returns-then-let_go-clause-shut
returns-then-let_go-clause-shut g c s kept r before other closing v held =
    none_leads_nowhere s r v (sym (ap (λ l. slot_at l c.args.at) (set_is_put c.args.slots.now c.args.at (Some value.None)) ∙ put_is_there c.args.slots.now c.args.at (Some value.None) c.requires.there) ∙ held)

pub returns-then-let_go-clause-others : goal.returns-then-let_go-clause-others
returns-then-let_go-clause-others g c n other =
    ap (λ l. slot_at l n) (set_is_put c.args.slots.now c.args.at (Some value.None)) ∙ other_stays c.args.slots.now c.args.at n (Some value.None) other

pub returns-else-let_go-clause-shut : goal.returns-else-let_go-clause-shut
returns-else-let_go-clause-shut g c s kept r before other closing v held =
    let same : Some c.in-Some.v ≡ Some v = sym c.in-Some.is ∙ sym (slot_found c.args.slots.now c.args.at None c.requires.there) ∙ held in
    ap (leads_into s r) (sym (some_is c.in-Some.v v same)) ∙ sym (closing.leads c.in-Some.v) ∙ sym c.let_go.ensures.leads ∙ c.if-let_go.false
