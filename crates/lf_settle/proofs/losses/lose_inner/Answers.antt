use Rattle.std.proofs.Common.{Some, inr}
use Rattle.lf_base.specs.EdgeLists.{near_edges}
use Rattle.lf_base.specs.Edges.{Field, slot_targets}
use Rattle.lf_settle.proofs.Counting.EdgeUncounted.{has_lost, may_uncount_owner}
use Rattle.lf_settle.proofs.losses.lose_inner.Goals as goal

pub uncount_inner-requires-clause-may : goal.uncount_inner-requires-clause-may
uncount_inner-requires-clause-may g c κs within =
    let w = c.requires.may in
    ((w.1.0).rows, (near_edges w.0, (near_edges w.1.0, (w.1.1.0, may_uncount_owner (g.S.Store.rows c.args.store.now) c.args.regions.now c.args.work.now w.0 w.1.0 (Field w.1.1.0) (slot_targets c.args.v) w.1.1.1.0 (Some c.args.home) w.1.1.1.1))))

pub notice-requires-clause-lost : goal.notice-requires-clause-lost
notice-requires-clause-lost g c κs within =
    let w = c.requires.may in
    (w.0, (w.1.0, ((Field w.1.1.0), has_lost (g.S.Store.rows c.args.store.now) c.args.regions.now c.args.work.now w.0 w.1.0 (Field w.1.1.0) (slot_targets c.args.v) w.1.1.1.0 (Some c.args.home) (inr w.1.1.1.1) (g.S.Store.rows c.uncount_inner.new.store) c.uncount_inner.new.regions (c.uncount_inner.ensures.counted (w.1.0).rows (near_edges w.0) (near_edges w.1.0) w.1.1.0 (may_uncount_owner (g.S.Store.rows c.args.store.now) c.args.regions.now c.args.work.now w.0 w.1.0 (Field w.1.1.0) (slot_targets c.args.v) w.1.1.1.0 (Some c.args.home) w.1.1.1.1)))))

pub returns-clause-counted : goal.returns-clause-counted
returns-clause-counted g c s t p can near =
    c.uncount_inner.ensures.counted (t).rows (near_edges s) (near_edges t) p (may_uncount_owner (g.S.Store.rows c.args.store.now) c.args.regions.now c.args.work.now s t (Field p) (slot_targets c.args.v) can (Some c.args.home) near)

pub returns-clause-noticed : goal.returns-clause-noticed
returns-clause-noticed g c s t p can near =
    c.notice.ensures.noticed s t (Field p) (has_lost (g.S.Store.rows c.args.store.now) c.args.regions.now c.args.work.now s t (Field p) (slot_targets c.args.v) can (Some c.args.home) (inr near) (g.S.Store.rows c.uncount_inner.new.store) c.uncount_inner.new.regions (c.uncount_inner.ensures.counted (t).rows (near_edges s) (near_edges t) p (may_uncount_owner (g.S.Store.rows c.args.store.now) c.args.regions.now c.args.work.now s t (Field p) (slot_targets c.args.v) can (Some c.args.home) near)))
