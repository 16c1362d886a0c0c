use Rattle.lf_settle.proofs.RowsDropped.RegionDropped.{apart, no_borrow, no_owner, region_cost, region_drops, region_there}
use Rattle.lf_settle.proofs.dropping.drop_region.Goals as goal

pub remove_rows-requires-clause-differ : goal.remove_rows-requires-clause-differ
remove_rows-requires-clause-differ g c κs within =
    let s = c.requires.state.0 in
    let can = c.requires.state.1 in
    apart s (g.S.Store.rows c.args.store.now) c.args.regions.now c.args.work.now c.args.r can (g.S.Store.rows c.empty_region.new.store) c.empty_region.new.regions c.empty_region.new.work (c.empty_region.ensures.counted s can) (c.empty_region.ensures.loses s can)

pub end-requires : goal.end-requires
end-requires g c =
    let s = c.requires.state.0 in
    let can = c.requires.state.1 in
    record {
      there = region_there s (g.S.Store.rows c.args.store.now) c.args.regions.now c.args.work.now c.args.r can (g.S.Store.rows c.empty_region.new.store) c.empty_region.new.regions c.empty_region.new.work (c.empty_region.ensures.counted s can) (c.empty_region.ensures.loses s can);
      not_borrowed = no_borrow s (g.S.Store.rows c.args.store.now) c.args.regions.now c.args.work.now c.args.r can (g.S.Store.rows c.empty_region.new.store) c.empty_region.new.regions c.empty_region.new.work (c.empty_region.ensures.counted s can) (c.empty_region.ensures.loses s can);
      not_owned = no_owner s (g.S.Store.rows c.args.store.now) c.args.regions.now c.args.work.now c.args.r can (g.S.Store.rows c.empty_region.new.store) c.empty_region.new.regions c.empty_region.new.work (c.empty_region.ensures.counted s can) (c.empty_region.ensures.loses s can);
    }

pub returns-clause-drops : goal.returns-clause-drops
returns-clause-drops g c s can =
    region_drops s (g.S.Store.rows c.args.store.now) c.args.regions.now c.args.work.now c.args.r can (g.S.Store.rows c.empty_region.new.store) c.empty_region.new.regions c.empty_region.new.work (c.empty_region.ensures.counted s can) (c.empty_region.ensures.loses s can) (g.S.Store.rows c.remove_rows.new.store) c.remove_rows.ensures.rows c.end.new.self c.end.ensures.ended c.empty_region.ensures.capacity (c.empty_region.ensures.less s can)

pub returns-clause-steps : goal.returns-clause-steps
returns-clause-steps g c s can =
    region_cost s (g.S.Store.rows c.args.store.now) c.args.regions.now c.args.work.now c.args.r can (g.S.Store.rows c.empty_region.new.store) c.empty_region.new.regions c.empty_region.new.work (c.empty_region.ensures.counted s can) (c.empty_region.ensures.loses s can) c.args.steps.now c.empty_region.new.steps c.remove_rows.new.steps (c.empty_region.ensures.steps s can) c.remove_rows.ensures.steps
