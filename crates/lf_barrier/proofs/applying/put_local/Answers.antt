use Rattle.std.proofs.Common.{Some, sym, ◌++◌, ◌∙◌}
use Rattle.lf_base.specs.declared.values.Owner.TheVariants.{Local}
use Rattle.lf_base.specs.EdgeLists.{near_edges}
use Rattle.lf_base.specs.Edges.{Field, edges_by, slot_targets}
use Rattle.lf_base.specs.WriteResult.{write_fields, write_result}
use Rattle.lf_domain.proofs.LocalWrite.{near, old_may_go, room_stays, row_there, written}
use Rattle.lf_domain.proofs.StateEdges.{may_count}
use Rattle.lf_domain.proofs.StoreEdges.{field_told}
use Rattle.lf_barrier.proofs.FieldWrites.RoomHere.{room_here}
use Rattle.lf_barrier.proofs.applying.put_local.Goals as goal

pub count_borrow-requires-clause-may : goal.count_borrow-requires-clause-may
count_borrow-requires-clause-may g c κs within =
    let h = c.requires.state in
    ((h.0).rows, (near_edges h.0, may_count (g.S.Store.rows c.args.store.now) c.args.regions.now h.0 h.1.0))

pub set_field-old-requires-clause-there : goal.set_field-old-requires-clause-there
set_field-old-requires-clause-there g c =
    let h = c.requires.state in
    row_there (g.S.Store.rows c.args.store.now) c.args.regions.now h.0 h.1.0 c.args.x c.args.key c.args.v h.1.1 (g.S.Store.rows c.count_borrow.new.store) c.count_borrow.new.regions
    (c.count_borrow.ensures.counted (h.0).rows (near_edges (h.0)) (Field c.args.x) (may_count (g.S.Store.rows c.args.store.now) c.args.regions.now (h.0) h.1.0) (near (g.S.Store.rows c.args.store.now) c.args.regions.now (h.0) h.1.0 c.args.x c.args.key c.args.v h.1.1))

pub set_field-old-requires-clause-room : goal.set_field-old-requires-clause-room
set_field-old-requires-clause-room g c =
    let h = c.requires.state in
    let rows = g.S.Store.rows c.args.store.now in
    let one = c.count_borrow.ensures.counted (h.0).rows (near_edges (h.0)) (Field c.args.x) (may_count rows c.args.regions.now (h.0) h.1.0) (near rows c.args.regions.now (h.0) h.1.0 c.args.x c.args.key c.args.v h.1.1) in
    room_stays rows (g.S.Store.rows c.count_borrow.new.store) (h.0).rows c.args.x c.args.key (g.S.Store.spare c.args.store.now) (g.S.Store.spare c.count_borrow.new.store)
    (((h.1.0).counts).store).rows (one.store).rows c.count_borrow.ensures.room
    (room_here rows (h.0).rows (g.S.Store.spare c.args.store.now) c.args.x Local _ (((h.1.0).counts).store).rows h.1.1 c.requires.room)

pub uncount_borrow-requires-clause-may : goal.uncount_borrow-requires-clause-may
uncount_borrow-requires-clause-may g c κs within =
    let h = c.requires.state in
    let s = h.0 in
    let rows = g.S.Store.rows c.args.store.now in
    let one = c.count_borrow.ensures.counted s.rows (near_edges s) (Field c.args.x) (may_count rows c.args.regions.now s h.1.0) (near rows c.args.regions.now s h.1.0 c.args.x c.args.key c.args.v h.1.1) in (
      write_fields s.rows c.args.x c.args.key c.args.v,
      (
        edges_by (Field c.args.x) (slot_targets (Some c.args.v)) ++ near_edges s,
        (
          near_edges (write_result s c.args.x c.args.key c.args.v),
          (
            Field c.args.x,
            old_may_go rows c.args.regions.now s h.1.0 c.args.x c.args.key c.args.v h.1.1 (g.S.Store.rows c.count_borrow.new.store) c.count_borrow.new.regions one (g.S.Store.rows c.set_field-old.new.self) c.set_field-old.ensures.rows c.set_field-old.result c.set_field-old.ensures.value,
          ),
        ),
      ),
    )

pub returns-clause-value : goal.returns-clause-value
returns-clause-value g c s d =
    let h = c.requires.state in
    let rows = g.S.Store.rows c.args.store.now in
    let one = c.count_borrow.ensures.counted (h.0).rows (near_edges (h.0)) (Field c.args.x) (may_count rows c.args.regions.now (h.0) h.1.0) (near rows c.args.regions.now (h.0) h.1.0 c.args.x c.args.key c.args.v h.1.1) in
    c.set_field-old.ensures.value ∙ field_told (g.S.Store.rows c.count_borrow.new.store) (h.0).rows c.args.x c.args.key (one.store).rows
    ∙ sym (field_told rows (h.0).rows c.args.x c.args.key (((h.1.0).counts).store).rows) ∙ field_told rows s.rows c.args.x c.args.key ((d.counts).store).rows

pub returns-clause-counts : goal.returns-clause-counts
returns-clause-counts g c s d local =
    let rows = g.S.Store.rows c.args.store.now in
    let one = c.count_borrow.ensures.counted s.rows (near_edges s) (Field c.args.x) (may_count rows c.args.regions.now s d) (near rows c.args.regions.now s d c.args.x c.args.key c.args.v local) in
    written rows c.args.regions.now s d c.args.x c.args.key c.args.v local (g.S.Store.rows c.uncount_borrow.new.store) c.uncount_borrow.new.regions
    (c.uncount_borrow.ensures.counted (write_fields s.rows c.args.x c.args.key c.args.v) (edges_by (Field c.args.x) (slot_targets (Some c.args.v)) ++ near_edges s) (near_edges (write_result s c.args.x c.args.key c.args.v)) (Field c.args.x)
    (old_may_go rows c.args.regions.now s d c.args.x c.args.key c.args.v local (g.S.Store.rows c.count_borrow.new.store) c.count_borrow.new.regions one (g.S.Store.rows c.set_field-old.new.self) c.set_field-old.ensures.rows c.set_field-old.result c.set_field-old.ensures.value))
