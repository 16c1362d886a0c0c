use Rattle.std.proofs.Common.{arith}
use Rattle.lf_transfer.proofs.Freezes.LostBorrows.{all_few, all_fits, inner_few, inner_fits, lost, region_count_begins, region_count_on, region_counted}
use Rattle.lf_transfer.proofs.Walks.RegionWalk.{fewer_left, row_is_there}
use Rattle.lf_transfer.proofs.losing.lost_borrows.Goals as goal

pub loop-next-init : goal.loop-next-init
loop-next-init g c = region_count_begins (g.S.Store.rows c.args.store.now) c.args.taken.now.keys c.args.r c.first-next.result c.first-next.ensures.first

pub refs_if_taken-all-requires-after_bounds : goal.refs_if_taken-all-requires-after_bounds
refs_if_taken-all-requires-after_bounds g c κs within =
    let h = c.requires.domain in
    row_is_there (g.S.Store.rows c.args.store.now) c.args.r ((((h.1.1.0).counts).store).rows).differ c.loop-next.next (c.loop-next.invariant).walk c.in-Some.p c.in-Some.is

pub overflow_add-all : goal.overflow_add-all
overflow_add-all g c =
    let rows = g.S.Store.rows c.args.store.now in
    let h = c.requires.domain in
    let few = all_few rows h.0 h.1.0 h.1.1.0 c.args.taken.now.keys c.args.r in
    let fits = all_fits rows c.args.taken.now.keys c.args.r ((((h.1.1.0).counts).store).rows).differ c.loop-next.next c.loop-next.all c.loop-next.inner c.loop-next.invariant c.in-Some.p c.in-Some.is in
    omega (arith, few, fits, c.refs_if_taken-all.ensures)

pub count_taken-inner-requires-clause-there : goal.count_taken-inner-requires-clause-there
count_taken-inner-requires-clause-there g c κs within =
    let h = c.requires.domain in
    row_is_there (g.S.Store.rows c.args.store.now) c.args.r ((((h.1.1.0).counts).store).rows).differ c.loop-next.next (c.loop-next.invariant).walk c.in-Some.p c.in-Some.is

pub overflow_add-inner : goal.overflow_add-inner
overflow_add-inner g c =
    let rows = g.S.Store.rows c.args.store.now in
    let h = c.requires.domain in
    let few = inner_few rows h.0 h.1.0 h.1.1.0 c.args.taken.now.keys c.args.r in
    let fits = inner_fits rows c.args.taken.now.keys c.args.r ((((h.1.1.0).counts).store).rows).differ c.loop-next.next c.loop-next.all c.loop-next.inner c.loop-next.invariant c.in-Some.p c.in-Some.is in
    omega (arith, few, fits, c.count_taken-inner.ensures)

pub next-next-requires : goal.next-next-requires
next-next-requires g c =
    let h = c.requires.domain in
    record { there = row_is_there (g.S.Store.rows c.args.store.now) c.args.r ((((h.1.1.0).counts).store).rows).differ c.loop-next.next (c.loop-next.invariant).walk c.in-Some.p c.in-Some.is }

pub loop-next-smaller : goal.loop-next-smaller
loop-next-smaller g c =
    let h = c.requires.domain in
    fewer_left (g.S.Store.rows c.args.store.now) c.args.r ((((h.1.1.0).counts).store).rows).differ c.loop-next.next (c.loop-next.invariant).walk c.in-Some.p c.in-Some.is c.next-next.result c.next-next.ensures.next

pub loop-next-preserved : goal.loop-next-preserved
loop-next-preserved g c =
    let rows = g.S.Store.rows c.args.store.now in
    let h = c.requires.domain in
    region_count_on rows c.args.taken.now.keys c.args.r ((((h.1.1.0).counts).store).rows).differ c.loop-next.next c.loop-next.all c.loop-next.inner c.loop-next.invariant c.in-Some.p c.in-Some.is
    c.next-next.result c.next-next.ensures.next _ _ (omega (arith, c.refs_if_taken-all.ensures)) (omega (arith, c.count_taken-inner.ensures))

pub overflow_sub-result : goal.overflow_sub-result
overflow_sub-result g c =
    let rows = g.S.Store.rows c.args.store.now in
    let h = c.requires.domain in
    let counted = region_counted rows c.args.taken.now.keys c.args.r ((((h.1.1.0).counts).store).rows).differ c.loop-next.next c.loop-next.all c.loop-next.inner c.loop-next.invariant c.in_default.is in
    omega (arith, counted.0, counted.1, lost rows h.0 h.1.0 h.1.1.0 c.args.taken.now.keys c.args.r h.1.1.1.1)

pub returns : goal.returns
returns g c table s d b out =
    let rows = g.S.Store.rows c.args.store.now in
    let counted = region_counted rows c.args.taken.now.keys c.args.r (((d.counts).store).rows).differ c.loop-next.next c.loop-next.all c.loop-next.inner c.loop-next.invariant c.in_default.is in
    omega (arith, counted.0, counted.1, lost rows table s d c.args.taken.now.keys c.args.r out)
