use Rattle.std.proofs.Common.{None, inr}
use Rattle.lf_base.specs.EdgeLists.{near_edges}
use Rattle.lf_base.specs.Edges.{Content, slot_targets}
use Rattle.lf_settle.proofs.Counting.EdgeUncounted.{has_lost, may_uncount_owner}
use Rattle.lf_settle.proofs.losses.lose_content.Goals as goal

pub uncount_content-requires-clause-may : goal.uncount_content-requires-clause-may
uncount_content-requires-clause-may g c κs within =
    let w = c.requires.may in
    ((w.1.0).rows, (near_edges w.0, (near_edges w.1.0, (w.1.1.0, may_uncount_owner (g.S.Store.rows c.args.store.now) c.args.regions.now c.args.work.now w.0 w.1.0 (Content w.1.1.0) (slot_targets c.args.v) w.1.1.1 None tt))))

pub notice-requires-clause-lost : goal.notice-requires-clause-lost
notice-requires-clause-lost g c κs within =
    let w = c.requires.may in
    (w.0, (w.1.0, ((Content w.1.1.0), has_lost (g.S.Store.rows c.args.store.now) c.args.regions.now c.args.work.now w.0 w.1.0 (Content w.1.1.0) (slot_targets c.args.v) w.1.1.1 None (inr tt) (g.S.Store.rows c.uncount_content.new.store) c.uncount_content.new.regions (c.uncount_content.ensures.counted (w.1.0).rows (near_edges w.0) (near_edges w.1.0) w.1.1.0 (may_uncount_owner (g.S.Store.rows c.args.store.now) c.args.regions.now c.args.work.now w.0 w.1.0 (Content w.1.1.0) (slot_targets c.args.v) w.1.1.1 None tt)))))

pub returns-clause-counted : goal.returns-clause-counted
returns-clause-counted g c s t d can =
    c.uncount_content.ensures.counted (t).rows (near_edges s) (near_edges t) d (may_uncount_owner (g.S.Store.rows c.args.store.now) c.args.regions.now c.args.work.now s t (Content d) (slot_targets c.args.v) can None tt)

pub returns-clause-noticed : goal.returns-clause-noticed
returns-clause-noticed g c s t d can =
    c.notice.ensures.noticed s t (Content d) (has_lost (g.S.Store.rows c.args.store.now) c.args.regions.now c.args.work.now s t (Content d) (slot_targets c.args.v) can None (inr tt) (g.S.Store.rows c.uncount_content.new.store) c.uncount_content.new.regions (c.uncount_content.ensures.counted (t).rows (near_edges s) (near_edges t) d (may_uncount_owner (g.S.Store.rows c.args.store.now) c.args.regions.now c.args.work.now s t (Content d) (slot_targets c.args.v) can None tt)))
