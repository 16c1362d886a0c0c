use Rattle.std.proofs.Common.{ap, length, subst, sym, ◌<◌, ◌∙◌}
use Rattle.lf_base.specs.PlainChanges.{slot_at}
use Rattle.lf_heap.specs.Heaps.{Domain}
use Rattle.lf_heap.proofs.Slots.SlotPlaces.{slot_found}
use Rattle.lf_heap.proofs.parts.Parts.slot.Goals as goal

pub returns : goal.returns
returns g c =
    let view = ap (λ (d : Domain). d.state.slots) c.self.view_is in
    sym (slot_found c.self.inside.slots.items c.args.at c.index.result.now (subst (λ l. c.args.at < length l) (sym view) c.requires) c.index.ensures) ∙ ap (λ l. slot_at l c.args.at) view
