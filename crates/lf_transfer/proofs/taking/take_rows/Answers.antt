use Rattle.lf_transfer.specs.Taking.{is_stored}
use Rattle.lf_transfer.proofs.Taken.TakenObjects.{rows_begin, rows_on, rows_taken, takes_one}
use Rattle.lf_transfer.proofs.Walks.RegionWalk.{fewer_left, row_is_there}
use Rattle.lf_transfer.proofs.taking.take_rows.Goals as goal

pub loop-next-init : goal.loop-next-init
loop-next-init g c = rows_begin (g.S.Store.rows c.args.store.now) c.args.r c.first-next.result c.args.taken.now.keys c.first-next.ensures.first

pub next-next-requires : goal.next-next-requires
next-next-requires g c =
    let h = c.requires.domain in
    record { there = row_is_there (g.S.Store.rows c.args.store.now) c.args.r ((((h.1.1).counts).store).rows).differ c.loop-next.next (c.loop-next.invariant).walk c.in-Some.p c.in-Some.is }

pub loop-next-smaller : goal.loop-next-smaller
loop-next-smaller g c =
    let h = c.requires.domain in
    fewer_left (g.S.Store.rows c.args.store.now) c.args.r ((((h.1.1).counts).store).rows).differ c.loop-next.next (c.loop-next.invariant).walk c.in-Some.p c.in-Some.is c.next-next.result c.next-next.ensures.next

pub loop-next-preserved : goal.loop-next-preserved
loop-next-preserved g c =
    let rows = g.S.Store.rows c.args.store.now in
    let h = c.requires.domain in
    let d = ((((h.1.1).counts).store).rows).differ in
    rows_on rows c.args.r c.loop-next.next c.args.taken.now.keys c.loop-next.taken.keys c.loop-next.invariant d c.in-Some.p c.in-Some.is c.next-next.result c.next-next.ensures.next c.add.new.names.keys
    (takes_one (is_stored rows) c.in-Some.p c.loop-next.taken.keys c.add.new.names.keys (row_is_there rows c.args.r d c.loop-next.next (c.loop-next.invariant).walk c.in-Some.p c.in-Some.is) c.in_ok-add.ensures)

pub returns : goal.returns
returns g c = rows_taken (g.S.Store.rows c.args.store.now) c.args.r c.loop-next.next c.args.taken.now.keys c.loop-next.taken.keys c.loop-next.invariant c.in_default.is
