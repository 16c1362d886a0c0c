use Rattle.lf_transfer.proofs.RegionsBelow.FoundBridges.{holds_after_rows, no_row_yet, region_found, row_found}
use Rattle.lf_transfer.proofs.Walks.RegionWalk.{fewer_left, row_is_there}
use Rattle.lf_transfer.proofs.below.look_into_region.Goals as goal

pub loop-next-init : goal.loop-next-init
loop-next-init g c = no_row_yet (g.S.Store.rows c.args.store.now) c.args.q c.first-next.result c.args.below.now c.first-next.ensures.first

pub look_into_row-requires-clause-there : goal.look_into_row-requires-clause-there
look_into_row-requires-clause-there g c κs within =
    let h = c.requires.domain in
    row_is_there (g.S.Store.rows c.args.store.now) c.args.q ((((h.1.1).counts).store).rows).differ c.loop-next.next (c.loop-next.invariant).walk c.in-Some.p c.in-Some.is

pub look_into_row-requires-clause-room : goal.look_into_row-requires-clause-room
look_into_row-requires-clause-room g c κs within =
    holds_after_rows (g.S.Store.rows c.args.store.now) c.args.q c.loop-next.next c.args.below.now c.loop-next.below c.loop-next.invariant c.requires.room

pub next-next-requires : goal.next-next-requires
next-next-requires g c =
    let h = c.requires.domain in
    record { there = row_is_there (g.S.Store.rows c.args.store.now) c.args.q ((((h.1.1).counts).store).rows).differ c.loop-next.next (c.loop-next.invariant).walk c.in-Some.p c.in-Some.is }

pub loop-next-smaller : goal.loop-next-smaller
loop-next-smaller g c =
    let h = c.requires.domain in
    fewer_left (g.S.Store.rows c.args.store.now) c.args.q ((((h.1.1).counts).store).rows).differ c.loop-next.next (c.loop-next.invariant).walk c.in-Some.p c.in-Some.is c.next-next.result c.next-next.ensures.next

pub loop-next-preserved : goal.loop-next-preserved
loop-next-preserved g c =
    let h = c.requires.domain in
    row_found (g.S.Store.rows c.args.store.now) c.args.q c.loop-next.next c.args.below.now c.loop-next.below c.loop-next.invariant ((((h.1.1).counts).store).rows).differ c.in-Some.p c.in-Some.is
    c.next-next.result c.next-next.ensures.next c.look_into_row.new.below c.look_into_row.ensures

pub returns : goal.returns
returns g c = region_found (g.S.Store.rows c.args.store.now) c.args.q c.loop-next.next c.args.below.now c.loop-next.below c.loop-next.invariant c.in_default.is
