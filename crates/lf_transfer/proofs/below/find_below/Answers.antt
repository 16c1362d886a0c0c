use Rattle.std.proofs.Common.{arith, ap, ◌∙◌}
use Rattle.indexmap.specs.IndexSet.{spare}
use Rattle.lf_barrier.specs.Surveys.{names_with}
use Rattle.lf_transfer.proofs.RegionsBelow.BelowRegions.{all_found, as_many_rows, bridge_there, descending_begins, descending_on, few, some_room}
use Rattle.lf_transfer.proofs.below.find_below.Goals as goal

pub put-requires : goal.put-requires
put-requires g c =
    let rows = g.S.Store.rows c.args.store.now in
    let h = c.requires.region in
    record { room = λ none. some_room rows h.0 h.1.0 c.args.r h.1.1.0 h.1.1.1.0 (spare c.args.below.now) h.1.1.1.1 }

pub loop-at-init : goal.loop-at-init
loop-at-init g c =
    let rows = g.S.Store.rows c.args.store.now in
    let h = c.requires.region in
    descending_begins rows c.args.r (spare c.args.below.now) c.put.new.names (c.put.ensures.names ∙ ap (λ l. names_with l c.args.r) c.requires.empty)
    (bridge_there rows h.0 h.1.0 c.args.r h.1.1.0 h.1.1.1.0)
    (omega (arith, as_many_rows rows h.0 h.1.0 h.1.1.0, h.1.1.1.1))
    (omega (arith, c.put.ensures.capacity))

pub loop-at-smaller : goal.loop-at-smaller
loop-at-smaller g c =
    let most = few (g.S.Store.rows c.args.store.now) c.args.r (spare c.args.below.now) c.loop-at.at c.loop-at.below c.loop-at.invariant in
    omega (arith, most, c.loop-at-test.true, c.len.ensures.len)

pub look_into_region-requires-clause-room : goal.look_into_region-requires-clause-room
look_into_region-requires-clause-room g c κs within = (c.loop-at.invariant).holds

pub loop-at-preserved : goal.loop-at-preserved
loop-at-preserved g c =
    descending_on (g.S.Store.rows c.args.store.now) c.args.r (spare c.args.below.now) c.loop-at.at c.loop-at.below c.loop-at.invariant c.found_at-q.result c.found_at-q.ensures
    c.look_into_region.new.below c.look_into_region.ensures

pub returns-clause-names : goal.returns-clause-names
returns-clause-names g c table s d b q =
    all_found (g.S.Store.rows c.args.store.now) c.args.r (spare c.args.below.now) c.loop-at.at c.loop-at.below c.loop-at.invariant
    (omega (arith, c.loop-at-test.false, c.len.ensures.len)) table s d q

pub returns-clause-capacity : goal.returns-clause-capacity
returns-clause-capacity g c = (c.loop-at.invariant).capacity
