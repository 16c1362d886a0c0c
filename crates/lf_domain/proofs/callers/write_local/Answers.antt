use Rattle.std.proofs.Common.{Some, ◌++◌}
use Rattle.lf_base.specs.EdgeLists.{near_edges}
use Rattle.lf_base.specs.Edges.{Field, edges_by, slot_targets}
use Rattle.lf_base.specs.WriteResult.{write_fields, write_result}
use Rattle.lf_domain.proofs.LocalWrite.{near, old_may_go, room_stays, row_there, written}
use Rattle.lf_domain.proofs.StateEdges.{may_count}
use Rattle.lf_domain.proofs.callers.write_local.Goals as goal

pub count_borrow-requires-clause-may : goal.count_borrow-requires-clause-may
count_borrow-requires-clause-may g c κs within =
    let h = c.requires.local in
    ((h.0).rows, (near_edges h.0, may_count (g.S.Store.rows c.args.store.now) c.args.regions.now h.0 h.1.0))

pub set_field-old-requires-clause-there : goal.set_field-old-requires-clause-there
set_field-old-requires-clause-there g c =
    let before = g.S.Store.rows c.args.store.now in
    let h = c.requires.local in
    row_there before c.args.regions.now h.0 h.1.0 c.args.o c.args.key c.args.v h.1.1 (g.S.Store.rows c.count_borrow.new.store) c.count_borrow.new.regions (c.count_borrow.ensures.counted (h.0).rows (near_edges (h.0)) (Field c.args.o) (may_count before c.args.regions.now (h.0) h.1.0) (near before c.args.regions.now (h.0) h.1.0 c.args.o c.args.key c.args.v h.1.1))

pub set_field-old-requires-clause-room : goal.set_field-old-requires-clause-room
set_field-old-requires-clause-room g c =
    let before = g.S.Store.rows c.args.store.now in
    let h = c.requires.local in
    let one = (c.count_borrow.ensures.counted (h.0).rows (near_edges (h.0)) (Field c.args.o) (may_count before c.args.regions.now (h.0) h.1.0) (near before c.args.regions.now (h.0) h.1.0 c.args.o c.args.key c.args.v h.1.1)) in
    room_stays before (g.S.Store.rows c.count_borrow.new.store) (h.0).rows c.args.o c.args.key (g.S.Store.spare c.args.store.now) (g.S.Store.spare c.count_borrow.new.store)
    (((h.1.0).counts).store).rows (one.store).rows c.count_borrow.ensures.room c.requires.room

pub uncount_borrow-requires-clause-may : goal.uncount_borrow-requires-clause-may
uncount_borrow-requires-clause-may g c κs within =
    let before = g.S.Store.rows c.args.store.now in
    let h = c.requires.local in
    let s = h.0 in
    let one = (c.count_borrow.ensures.counted s.rows (near_edges s) (Field c.args.o) (may_count before c.args.regions.now s h.1.0) (near before c.args.regions.now s h.1.0 c.args.o c.args.key c.args.v h.1.1)) in (
      write_fields s.rows c.args.o c.args.key c.args.v,
      (
        edges_by (Field c.args.o) (slot_targets (Some c.args.v)) ++ near_edges s,
        (
          near_edges (write_result s c.args.o c.args.key c.args.v),
          (
            Field c.args.o,
            old_may_go before c.args.regions.now s h.1.0 c.args.o c.args.key c.args.v h.1.1 (g.S.Store.rows c.count_borrow.new.store) c.count_borrow.new.regions one (g.S.Store.rows c.set_field-old.new.self) c.set_field-old.ensures.rows c.set_field-old.result c.set_field-old.ensures.value,
          ),
        ),
      ),
    )

pub returns-clause-written : goal.returns-clause-written
returns-clause-written g c s d local =
    let before = g.S.Store.rows c.args.store.now in
    let one = (c.count_borrow.ensures.counted s.rows (near_edges s) (Field c.args.o) (may_count before c.args.regions.now s d) (near before c.args.regions.now s d c.args.o c.args.key c.args.v local)) in
    written before c.args.regions.now s d c.args.o c.args.key c.args.v local (g.S.Store.rows c.uncount_borrow.new.store) c.uncount_borrow.new.regions
    (c.uncount_borrow.ensures.counted (write_fields s.rows c.args.o c.args.key c.args.v) (edges_by (Field c.args.o) (slot_targets (Some c.args.v)) ++ near_edges s) (near_edges (write_result s c.args.o c.args.key c.args.v)) (Field c.args.o)
    (old_may_go before c.args.regions.now s d c.args.o c.args.key c.args.v local (g.S.Store.rows c.count_borrow.new.store) c.count_borrow.new.regions one (g.S.Store.rows c.set_field-old.new.self) c.set_field-old.ensures.rows c.set_field-old.result c.set_field-old.ensures.value))
