use Rattle.std.proofs.Common.{arith}
use Rattle.lf_base.specs.Edges.{field_targets}
use Rattle.lf_graph.specs.StoredRows.{fields_at}
use Rattle.lf_transfer.proofs.Tables.LocalReferences.{regions_stay}
use Rattle.lf_transfer.proofs.Tables.LocalRows.{regions_there, room_for_row, rows_begin, rows_cost, rows_on, rows_turned}
use Rattle.lf_transfer.proofs.Walks.RegionWalk.{fewer_left, row_is_there}
use Rattle.lf_transfer.proofs.localizing.localize_region.Goals as goal

pub loop-next-init : goal.loop-next-init
loop-next-init g c =
    let rows = g.S.Store.rows c.args.store.now in
    let h = c.requires.domain in
    record {
      so_far = rows_begin rows c.args.r c.first-next.result c.args.regions.now c.args.steps.now c.first-next.new.steps c.first-next.ensures.first c.first-next.ensures.step;
      there = regions_there rows c.args.regions.now h.0 h.1;
    }

pub localize_row-requires-clause-domain : goal.localize_row-requires-clause-domain
localize_row-requires-clause-domain g c κs within = let h = c.requires.domain in (c.args.regions.now, (h.0, h.1))

pub localize_row-requires-clause-there : goal.localize_row-requires-clause-there
localize_row-requires-clause-there g c κs within =
    let h = c.requires.domain in
    row_is_there (g.S.Store.rows c.args.store.now) c.args.r ((((h.1).counts).store).rows).differ c.loop-next.next (c.loop-next.invariant.so_far).walk c.in-Some.p c.in-Some.is

pub localize_row-requires-clause-fits : goal.localize_row-requires-clause-fits
localize_row-requires-clause-fits g c κs within =
    let h = c.requires.domain in
    room_for_row (g.S.Store.rows c.args.store.now) c.args.r c.loop-next.next c.args.regions.now c.loop-next.regions c.args.steps.now c.loop-next.steps c.loop-next.invariant.so_far
    ((((h.1).counts).store).rows).differ c.in-Some.p c.in-Some.is c.requires.fits

pub next-next-requires : goal.next-next-requires
next-next-requires g c =
    let h = c.requires.domain in
    record { there = row_is_there (g.S.Store.rows c.args.store.now) c.args.r ((((h.1).counts).store).rows).differ c.loop-next.next (c.loop-next.invariant.so_far).walk c.in-Some.p c.in-Some.is }

pub loop-next-smaller : goal.loop-next-smaller
loop-next-smaller g c =
    let h = c.requires.domain in
    fewer_left (g.S.Store.rows c.args.store.now) c.args.r ((((h.1).counts).store).rows).differ c.loop-next.next (c.loop-next.invariant.so_far).walk c.in-Some.p c.in-Some.is c.next-next.result c.next-next.ensures.next

pub loop-next-preserved : goal.loop-next-preserved
loop-next-preserved g c =
    let rows = g.S.Store.rows c.args.store.now in
    let h = c.requires.domain in
    record {
      so_far = rows_on rows c.args.r c.loop-next.next c.args.regions.now c.loop-next.regions c.args.steps.now c.loop-next.steps c.loop-next.invariant.so_far
          ((((h.1).counts).store).rows).differ c.in-Some.p c.in-Some.is c.next-next.result c.next-next.ensures.next c.localize_row.new.regions c.localize_row.ensures.turns
          c.next-next.new.steps (omega (arith, c.localize_row.ensures.steps, c.next-next.ensures.step));
      there = regions_stay rows c.args.r (field_targets (fields_at rows c.in-Some.p)) c.loop-next.regions c.localize_row.new.regions c.localize_row.ensures.turns c.loop-next.invariant.there;
    }

pub returns-clause-turns : goal.returns-clause-turns
returns-clause-turns g c =
    rows_turned (g.S.Store.rows c.args.store.now) c.args.r c.loop-next.next c.args.regions.now c.loop-next.regions c.args.steps.now c.loop-next.steps c.loop-next.invariant.so_far c.in_default.is

pub returns-clause-steps : goal.returns-clause-steps
returns-clause-steps g c =
    rows_cost (g.S.Store.rows c.args.store.now) c.args.r c.loop-next.next c.args.regions.now c.loop-next.regions c.args.steps.now c.loop-next.steps c.loop-next.invariant.so_far c.in_default.is
