use Rattle.std.proofs.Common.{[], subst, sym}
use Rattle.lf_heap.specs.declared.contents.CownContents.{CownContents}
use Rattle.lf_heap.specs.declared.frozen.FrozenParts.{FrozenParts}
use Rattle.lf_heap.specs.Heaps.{HasParts, heap_state}
use Rattle.lf_heap.proofs.States.FirstParts.{first_parts}
use Rattle.lf_heap.proofs.parts.Parts.new.Goals as goal

pub invariant_of-result : goal.invariant_of-result
invariant_of-result g c =
    let rows = g.S.Store.rows c.in_ok-store.store in
    let regions = c.in_ok-regions.regions in
    let own = c.new-3.result in
    let contents = c.none.result in
    let given = c.args.given in
    let start : FrozenParts = record { given = given; own = [] } in
    let none : CownContents = record { held = []; made = [] } in
    subst (λ slots. HasParts rows regions 0 (heap_state c.args.birth 0 contents (record { given = given; own = own }) rows slots)) (sym c.new-4.ensures.items)
    (subst (λ o. HasParts rows regions 0 (heap_state c.args.birth 0 contents (record { given = given; own = o }) rows [])) (sym c.new-3.ensures)
    (subst (λ m. HasParts rows regions 0 (heap_state c.args.birth 0 (record { held = contents.held; made = m }) start rows [])) (sym c.none.ensures.made)
    (subst (λ h. HasParts rows regions 0 (heap_state c.args.birth 0 (record { held = h; made = [] }) start rows [])) (sym c.none.ensures.held)
    (subst (λ r. HasParts rows r 0 (heap_state c.args.birth 0 none start rows [])) (sym c.in_ok-regions.ensures)
    (subst (λ r. HasParts r [] 0 (heap_state c.args.birth 0 none start r [])) (sym c.in_ok-store.ensures)
    (first_parts c.args.birth given c.requires))))))
