use Rattle.std.proofs.Common.{ap, arith, cond, ◌++◌, ℕ}
use Rattle.lf_heap.specs.Openness.{children}
use Rattle.lf_heap.proofs.RegionWalks.ChildrenCounted.{all_counted, child_is_bridge, child_there, counting_on, few_children, room_for_walk}
use Rattle.lf_heap.proofs.RegionWalks.FoundLists.{cut_back, lists_longer}
use Rattle.lf_heap.proofs.openness.open_children.Goals.{else-is_open, then-is_open}
use Rattle.lf_heap.proofs.openness.open_children.Goals as goal

pub look_into_region-requires-clause-room : goal.look_into_region-requires-clause-room
look_into_region-requires-clause-room g c κs within =
    let h = c.requires.region in
    omega (arith, h.1.1.1, few_children (g.S.Store.rows c.args.store.now) c.args.regions.now h.0 h.1.0 c.args.r h.1.1.0)

pub region_at-child-requires : goal.region_at-child-requires
region_at-child-requires g c =
    let rows = g.S.Store.rows c.args.store.now in
    child_there rows c.args.regions.now c.args.r c.args.found.now c.loop-at.at c.loop-at.count c.loop-at.found c.loop-at.invariant
    (omega (arith, c.loop-at-test.true, c.len-end.ensures, lists_longer c.args.found.now c.look_into_region.new.found (children rows c.args.r) (c.look_into_region.ensures).lists))

pub is_open-requires-clause-region : goal.is_open-requires-clause-region
is_open-requires-clause-region g c κs within =
    let rows = g.S.Store.rows c.args.store.now in
    let h = c.requires.region in (
      h.0,
      (
        h.1.0,
        (
          child_is_bridge rows c.args.regions.now c.args.r c.args.found.now c.loop-at.at c.loop-at.count c.loop-at.found c.loop-at.invariant c.region_at-child.result c.region_at-child.ensures h.0 h.1.0,
          room_for_walk rows c.args.regions.now c.args.r c.args.found.now c.loop-at.at c.loop-at.count c.loop-at.found c.loop-at.invariant h.0 h.1.0 h.1.1.0 h.1.1.1,
        ),
      ),
    )

pub loop-at-preserved : goal.loop-at-preserved
loop-at-preserved g c =
    let rows = g.S.Store.rows c.args.store.now in
    counting_on rows c.args.regions.now c.args.r c.args.found.now c.loop-at.at c.loop-at.count c.loop-at.found c.loop-at.invariant c.region_at-child.result c.region_at-child.ensures
    c.if-is_open.count c.is_open.result c.is_open.ensures.«open» (elim c.if-is_open.branch [
      | then-is_open w ↦ omega (arith, w.count-is, ap {B = ℕ} (λ b. cond b 1 0) w.if-is_open.true)
      | else-is_open w ↦ omega (arith, w.count-is, ap {B = ℕ} (λ b. cond b 1 0) w.if-is_open.false)
    ]) c.is_open.new.found c.is_open.ensures.same

pub returns-clause-count : goal.returns-clause-count
returns-clause-count g c s d b =
    let rows = g.S.Store.rows c.args.store.now in
    all_counted rows c.args.regions.now c.args.r c.args.found.now c.loop-at.at c.loop-at.count c.loop-at.found c.loop-at.invariant
    (omega (arith, c.loop-at-test.false, c.len-end.ensures, lists_longer c.args.found.now c.look_into_region.new.found (children rows c.args.r) (c.look_into_region.ensures).lists)) s d

pub returns-clause-same : goal.returns-clause-same
returns-clause-same g c =
    cut_back c.args.found.now c.loop-at.found c.truncate.new.self ((c.loop-at.invariant).done ++ (c.loop-at.invariant).left) c.len-start.result
    (c.loop-at.invariant).lists c.len-start.ensures c.truncate.ensures.suspects c.truncate.ensures.room
