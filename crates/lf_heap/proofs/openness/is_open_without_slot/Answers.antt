use Rattle.std.proofs.Common.{arith, sym, ◌<◌, ◌∙◌, ◌≤◌}
use Rattle.std.proofs.lemmas.Bool.{lt-ltb}
use Rattle.lf_base.specs.WalkCounts.{borrowed}
use Rattle.lf_heap.proofs.Answered.CountsAsked.{borrows_told}
use Rattle.lf_heap.proofs.Answered.WithoutSlot.{open_below, open_else}
use Rattle.lf_heap.proofs.openness.is_open_without_slot.Goals as goal

pub returns-then-borrowed-gt1-clause-open : goal.returns-then-borrowed-gt1-clause-open
returns-then-borrowed-gt1-clause-open g c s slots d inside lack =
    let many : 1 < borrowed s c.args.r = omega (arith, c.if-borrowed-gt1.true, c.borrowed.ensures.number, borrows_told (g.S.Store.rows c.args.store.now) c.args.regions.now s d c.args.r) in
    lt-ltb 1 c.borrowed.result c.if-borrowed-gt1.true ∙ sym (open_else s d.well_formed slots c.args.r inside lack many)

pub returns-else-borrowed-gt1-clause-open : goal.returns-else-borrowed-gt1-clause-open
returns-else-borrowed-gt1-clause-open g c s slots d inside lack =
    let few : borrowed s c.args.r ≤ 1 = omega (arith, c.if-borrowed-gt1.false, c.borrowed.ensures.number, borrows_told (g.S.Store.rows c.args.store.now) c.args.regions.now s d c.args.r) in
    open_below s d.well_formed slots c.args.r inside lack few c.is_open_below.result (c.is_open_below.ensures.«open» s d inside)
