use Rattle.lf_settle.proofs.RowsDropped.LeftParts.{can_empty, row_cost, row_drops, row_there}
use Rattle.lf_settle.proofs.dropping.drop_row.Goals as goal

pub empty_row-requires-clause-state : goal.empty_row-requires-clause-state
empty_row-requires-clause-state g c κs within =
    let s = c.requires.state.0 in
    let can = c.requires.state.1 in
    (s, can_empty s (g.S.Store.rows c.args.store.now) c.args.regions.now c.args.work.now c.args.o c.args.owner can)

pub remove-requires : goal.remove-requires
remove-requires g c =
    let s = c.requires.state.0 in
    let can = c.requires.state.1 in
    record { there = row_there s (g.S.Store.rows c.args.store.now) c.args.regions.now c.args.work.now c.args.o c.args.owner can (g.S.Store.rows c.empty_row.new.store) c.empty_row.new.regions c.empty_row.new.work (c.empty_row.ensures.counted s (can_empty s (g.S.Store.rows c.args.store.now) c.args.regions.now c.args.work.now c.args.o c.args.owner can)) }

pub returns-clause-drops : goal.returns-clause-drops
returns-clause-drops g c s can =
    row_drops s (g.S.Store.rows c.args.store.now) c.args.regions.now c.args.work.now c.args.o c.args.owner can (g.S.Store.rows c.empty_row.new.store) c.empty_row.new.regions c.empty_row.new.work (c.empty_row.ensures.counted s (can_empty s (g.S.Store.rows c.args.store.now) c.args.regions.now c.args.work.now c.args.o c.args.owner can)) (g.S.Store.rows c.remove.new.self) c.remove.ensures.rows (c.empty_row.ensures.loses s (can_empty s (g.S.Store.rows c.args.store.now) c.args.regions.now c.args.work.now c.args.o c.args.owner can)) c.empty_row.ensures.capacity (c.empty_row.ensures.less s (can_empty s (g.S.Store.rows c.args.store.now) c.args.regions.now c.args.work.now c.args.o c.args.owner can))

pub returns-clause-steps : goal.returns-clause-steps
returns-clause-steps g c s can =
    row_cost s (g.S.Store.rows c.args.store.now) c.args.regions.now c.args.work.now c.args.o c.args.owner can (g.S.Store.rows c.empty_row.new.store) c.empty_row.new.regions c.empty_row.new.work (c.empty_row.ensures.counted s (can_empty s (g.S.Store.rows c.args.store.now) c.args.regions.now c.args.work.now c.args.o c.args.owner can)) (g.S.Store.rows c.remove.new.self) c.remove.ensures.rows c.args.steps.now c.empty_row.new.steps c.remove.new.steps (c.empty_row.ensures.steps s (can_empty s (g.S.Store.rows c.args.store.now) c.args.regions.now c.args.work.now c.args.o c.args.owner can)) c.remove.ensures.step
