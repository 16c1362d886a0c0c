use Rattle.std.proofs.Common.{arith}
use Rattle.lf_transfer.proofs.GivenRegions.RegionCells.{cells_begin, cells_on}
use Rattle.lf_transfer.proofs.Walks.RegionWalk.{fewer_left, row_is_there}
use Rattle.lf_transfer.proofs.giving.count_cells.Goals as goal

pub loop-next-init : goal.loop-next-init
loop-next-init g c = cells_begin (g.S.Store.rows c.args.store.now) c.args.r c.first-next.result c.first-next.ensures.first

pub width-width-requires : goal.width-width-requires
width-width-requires g c = record { there = row_is_there (g.S.Store.rows c.args.store.now) c.args.r c.requires.differ c.loop-next.next (c.loop-next.invariant).walk c.in-Some.p c.in-Some.is }

pub next-next-requires : goal.next-next-requires
next-next-requires g c = record { there = row_is_there (g.S.Store.rows c.args.store.now) c.args.r c.requires.differ c.loop-next.next (c.loop-next.invariant).walk c.in-Some.p c.in-Some.is }

pub loop-next-smaller : goal.loop-next-smaller
loop-next-smaller g c =
    fewer_left (g.S.Store.rows c.args.store.now) c.args.r c.requires.differ c.loop-next.next (c.loop-next.invariant).walk c.in-Some.p c.in-Some.is c.next-next.result c.next-next.ensures.next

pub loop-next-preserved : goal.loop-next-preserved
loop-next-preserved g c =
    cells_on (g.S.Store.rows c.args.store.now) c.args.r c.requires.differ c.loop-next.next c.loop-next.cells c.loop-next.invariant c.in-Some.p c.in-Some.is c.next-next.result c.next-next.ensures.next
    c.width-width.result c.width-width.ensures.width c.in_ok-cells.cells (omega (arith, (c.in_ok-cells.ensures).1, (c.in_ok-checked_add.ensures).1))
