use Rattle.std.proofs.Common.{sym, ◌∙◌}
use Rattle.lf_transfer.proofs.Walks.References.{region_found, region_lacks, region_search_begins, region_search_on}
use Rattle.lf_transfer.proofs.Walks.RegionWalk.{fewer_left, row_is_there}
use Rattle.lf_transfer.proofs.bridges.refers_to.Goals as goal

pub loop-next-init : goal.loop-next-init
loop-next-init g c = region_search_begins (g.S.Store.rows c.args.store.now) c.args.q c.args.o c.first-next.result c.first-next.ensures.first

pub row_refers_to-requires-clause-there : goal.row_refers_to-requires-clause-there
row_refers_to-requires-clause-there g c κs within =
    row_is_there (g.S.Store.rows c.args.store.now) c.args.q (((((c.requires.domain.1.1).counts).store).rows).differ) c.loop-next.next (c.loop-next.invariant).walk c.in-Some.p c.in-Some.is

pub next-next-requires : goal.next-next-requires
next-next-requires g c = record {
  there = row_is_there (g.S.Store.rows c.args.store.now) c.args.q (((((c.requires.domain.1.1).counts).store).rows).differ) c.loop-next.next (c.loop-next.invariant).walk c.in-Some.p c.in-Some.is;
}

pub returns-then-row_refers_to : goal.returns-then-row_refers_to
returns-then-row_refers_to g c =
    region_found (g.S.Store.rows c.args.store.now) c.args.q c.args.o (((((c.requires.domain.1.1).counts).store).rows).differ) c.loop-next.next c.loop-next.invariant c.in-Some.p c.in-Some.is
    (sym c.if-row_refers_to.true ∙ c.row_refers_to.ensures)

pub loop-next-smaller : goal.loop-next-smaller
loop-next-smaller g c =
    fewer_left (g.S.Store.rows c.args.store.now) c.args.q (((((c.requires.domain.1.1).counts).store).rows).differ) c.loop-next.next (c.loop-next.invariant).walk c.in-Some.p c.in-Some.is
    c.next-next.result c.next-next.ensures.next

pub loop-next-preserved : goal.loop-next-preserved
loop-next-preserved g c =
    region_search_on (g.S.Store.rows c.args.store.now) c.args.q c.args.o (((((c.requires.domain.1.1).counts).store).rows).differ) c.loop-next.next c.loop-next.invariant c.in-Some.p c.in-Some.is
    c.next-next.result c.next-next.ensures.next (sym c.if-row_refers_to.false ∙ c.row_refers_to.ensures)

pub returns : goal.returns
returns g c = region_lacks (g.S.Store.rows c.args.store.now) c.args.q c.args.o c.loop-next.next c.loop-next.invariant c.in_default.is
