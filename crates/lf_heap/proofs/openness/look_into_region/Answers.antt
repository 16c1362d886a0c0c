use Rattle.lf_heap.proofs.RegionWalks.RowsLooked.{room_for_row, row_there, rows_begin, rows_fewer, rows_on}
use Rattle.lf_heap.proofs.openness.look_into_region.Goals as goal

pub loop-next-init : goal.loop-next-init
loop-next-init g c = rows_begin (g.S.Store.rows c.args.store.now) c.args.regions.now c.args.r c.first-next.result c.args.found.now c.first-next.ensures.first

pub look_into_row-child-requires-clause-there : goal.look_into_row-child-requires-clause-there
look_into_row-child-requires-clause-there g c κs within =
    row_there (g.S.Store.rows c.args.store.now) c.args.regions.now c.args.r ((((c.requires.domain.1).counts).store).rows).differ c.loop-next.next c.args.found.now c.loop-next.found c.loop-next.«open» c.loop-next.invariant c.in-Some.p c.in-Some.is

pub look_into_row-child-requires-clause-room : goal.look_into_row-child-requires-clause-room
look_into_row-child-requires-clause-room g c κs within =
    room_for_row (g.S.Store.rows c.args.store.now) c.args.regions.now c.args.r ((((c.requires.domain.1).counts).store).rows).differ c.loop-next.next c.args.found.now c.loop-next.found c.loop-next.«open» c.loop-next.invariant c.in-Some.p c.in-Some.is c.requires.room

pub next-next-requires : goal.next-next-requires
next-next-requires g c = record {
  there = row_there (g.S.Store.rows c.args.store.now) c.args.regions.now c.args.r ((((c.requires.domain.1).counts).store).rows).differ c.loop-next.next c.args.found.now c.loop-next.found c.loop-next.«open» c.loop-next.invariant c.in-Some.p c.in-Some.is;
}

pub loop-next-smaller : goal.loop-next-smaller
loop-next-smaller g c =
    rows_fewer (g.S.Store.rows c.args.store.now) c.args.regions.now c.args.r ((((c.requires.domain.1).counts).store).rows).differ c.loop-next.next c.args.found.now c.loop-next.found c.loop-next.«open» c.loop-next.invariant c.in-Some.p c.in-Some.is
    c.next-next.result c.next-next.ensures.next

pub loop-next-preserved : goal.loop-next-preserved
loop-next-preserved g c =
    rows_on (g.S.Store.rows c.args.store.now) c.args.regions.now c.args.r ((((c.requires.domain.1).counts).store).rows).differ c.loop-next.next c.args.found.now c.loop-next.found c.loop-next.«open» c.loop-next.invariant c.in-Some.p c.in-Some.is
    c.next-next.result c.next-next.ensures.next c.look_into_row-child.new.found c.look_into_row-child.result c.look_into_row-child.ensures
