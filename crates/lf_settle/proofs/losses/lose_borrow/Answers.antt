use Rattle.std.proofs.Common.{None, inl, refl}
use Rattle.lf_base.specs.EdgeLists.{near_edges}
use Rattle.lf_base.specs.Edges.{slot_targets}
use Rattle.lf_settle.proofs.Counting.EdgeUncounted.{has_lost, may_uncount}
use Rattle.lf_settle.proofs.losses.lose_borrow.Goals as goal

pub uncount_borrow-requires-clause-may : goal.uncount_borrow-requires-clause-may
uncount_borrow-requires-clause-may g c κs within =
    let w = c.requires.may in
    ((w.1.0).rows, (near_edges w.0, (near_edges w.1.0, (w.1.1.0, may_uncount (g.S.Store.rows c.args.store.now) c.args.regions.now c.args.work.now w.0 w.1.0 w.1.1.0 (slot_targets c.args.v) w.1.1.1.0 w.1.1.1.1))))

pub notice-requires-clause-lost : goal.notice-requires-clause-lost
notice-requires-clause-lost g c κs within =
    let w = c.requires.may in
    (w.0, (w.1.0, (w.1.1.0, has_lost (g.S.Store.rows c.args.store.now) c.args.regions.now c.args.work.now w.0 w.1.0 w.1.1.0 (slot_targets c.args.v) w.1.1.1.0 None (inl (w.1.1.1.1, refl)) (g.S.Store.rows c.uncount_borrow.new.store) c.uncount_borrow.new.regions (c.uncount_borrow.ensures.counted (w.1.0).rows (near_edges w.0) (near_edges w.1.0) w.1.1.0 (may_uncount (g.S.Store.rows c.args.store.now) c.args.regions.now c.args.work.now w.0 w.1.0 w.1.1.0 (slot_targets c.args.v) w.1.1.1.0 w.1.1.1.1)))))

pub returns-clause-counted : goal.returns-clause-counted
returns-clause-counted g c s t from can near =
    c.uncount_borrow.ensures.counted (t).rows (near_edges s) (near_edges t) from (may_uncount (g.S.Store.rows c.args.store.now) c.args.regions.now c.args.work.now s t from (slot_targets c.args.v) can near)

pub returns-clause-noticed : goal.returns-clause-noticed
returns-clause-noticed g c s t from can near =
    c.notice.ensures.noticed s t from (has_lost (g.S.Store.rows c.args.store.now) c.args.regions.now c.args.work.now s t from (slot_targets c.args.v) can None (inl (near, refl)) (g.S.Store.rows c.uncount_borrow.new.store) c.uncount_borrow.new.regions (c.uncount_borrow.ensures.counted (t).rows (near_edges s) (near_edges t) from (may_uncount (g.S.Store.rows c.args.store.now) c.args.regions.now c.args.work.now s t from (slot_targets c.args.v) can near)))
