use Rattle.std.proofs.Common.{subst, sym, ◌++◌, ◌<◌, ◌≤◌}
use Rattle.lf_heap.specs.Openness.{children}
use Rattle.lf_heap.proofs.RegionWalks.FoundLists.{cut_back}
use Rattle.lf_heap.proofs.RegionWalks.WalksDown.{Walking, found_below, found_lists, less_left, none_below, region_there, room_for_children, walk_begins, walk_on}
use Rattle.lf_heap.proofs.openness.is_open_below.Goals as goal

pub loop-at-init : goal.loop-at-init
loop-at-init g c =
    let rows = g.S.Store.rows c.args.store.now in
    subst (λ n. Walking rows c.args.regions.now c.args.r c.args.found.now n c.push.new.self) (sym c.len-start.ensures)
    (walk_begins rows c.args.regions.now c.args.r c.args.found.now c.push.new.self c.push.ensures.suspects c.push.ensures.room)

pub region_at-q-requires : goal.region_at-q-requires
region_at-q-requires g c =
    region_there (g.S.Store.rows c.args.store.now) c.args.regions.now c.args.r c.args.found.now c.loop-at.at c.loop-at.found c.loop-at.invariant (subst (λ n. c.loop-at.at < n) c.len.ensures c.loop-at-test.true)

pub look_into_region-requires-clause-room : goal.look_into_region-requires-clause-room
look_into_region-requires-clause-room g c κs within =
    let h = c.requires.region in
    room_for_children (g.S.Store.rows c.args.store.now) c.args.regions.now c.args.r c.args.found.now c.loop-at.at c.loop-at.found c.loop-at.invariant c.region_at-q.result c.region_at-q.ensures h.0 h.1.0 h.1.1.0 h.1.1.1

pub returns-then-look_into_region-clause-open : goal.returns-then-look_into_region-clause-open
returns-then-look_into_region-clause-open g c s d b =
    found_below (g.S.Store.rows c.args.store.now) c.args.regions.now c.args.r c.args.found.now c.loop-at.at c.loop-at.found c.loop-at.invariant c.region_at-q.result c.region_at-q.ensures
    c.look_into_region.new.found c.look_into_region.result c.look_into_region.ensures c.if-look_into_region.true s d

pub returns-then-look_into_region-clause-same : goal.returns-then-look_into_region-clause-same
returns-then-look_into_region-clause-same g c =
    let rows = g.S.Store.rows c.args.store.now in
    cut_back c.args.found.now c.look_into_region.new.found c.truncate.new.self (((c.loop-at.invariant).done ++ (c.loop-at.invariant).left) ++ children rows c.region_at-q.result) c.len-start.result
    (found_lists rows c.args.regions.now c.args.r c.args.found.now c.loop-at.at c.loop-at.found c.loop-at.invariant c.region_at-q.result c.region_at-q.ensures
    c.look_into_region.new.found c.look_into_region.result c.look_into_region.ensures) c.len-start.ensures c.truncate.ensures.suspects c.truncate.ensures.room

pub loop-at-smaller : goal.loop-at-smaller
loop-at-smaller g c =
    less_left (g.S.Store.rows c.args.store.now) c.args.regions.now c.args.r c.args.found.now c.loop-at.at c.loop-at.found c.loop-at.invariant c.region_at-q.result c.region_at-q.ensures
    c.look_into_region.new.found c.look_into_region.result c.look_into_region.ensures (subst (λ n. c.loop-at.at < n) c.len.ensures c.loop-at-test.true)

pub loop-at-preserved : goal.loop-at-preserved
loop-at-preserved g c =
    let h = c.requires.region in
    walk_on (g.S.Store.rows c.args.store.now) c.args.regions.now c.args.r c.args.found.now c.loop-at.at c.loop-at.found c.loop-at.invariant c.region_at-q.result c.region_at-q.ensures
    c.look_into_region.new.found c.look_into_region.result c.look_into_region.ensures h.0 h.1.0 c.if-look_into_region.false

pub returns-clause-open : goal.returns-clause-open
returns-clause-open g c s d b =
    none_below (g.S.Store.rows c.args.store.now) c.args.regions.now c.args.r c.args.found.now c.loop-at.at c.loop-at.found c.loop-at.invariant
    (subst (λ n. n ≤ c.loop-at.at) c.len.ensures c.loop-at-test.false) s d

pub returns-clause-same : goal.returns-clause-same
returns-clause-same g c =
    cut_back c.args.found.now c.loop-at.found c.truncate-2.new.self ((c.loop-at.invariant).done ++ (c.loop-at.invariant).left) c.len-start.result
    (c.loop-at.invariant).lists c.len-start.ensures c.truncate-2.ensures.suspects c.truncate-2.ensures.room
