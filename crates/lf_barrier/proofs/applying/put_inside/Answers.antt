use Rattle.std.proofs.Common.{arith, ◌++◌, ◌≤◌, ◌∙◌}
use Rattle.lf_base.specs.declared.values.Owner.TheVariants.{In}
use Rattle.lf_base.specs.EdgeLists.{near_edges}
use Rattle.lf_base.specs.TouchedEdges.{edges_from}
use Rattle.lf_graph.specs.Room.{room_for_field}
use Rattle.lf_domain.proofs.StoreEdges.{field_told}
use Rattle.lf_barrier.proofs.MovingEdges.FieldLoops.{has_row_by_owner}
use Rattle.lf_barrier.proofs.FieldWrites.InsideWrite.{all_counted, few_steps, left, may_count_moved, may_count_new, may_give, may_uncount_moved, may_uncount_old, now, put, rest, room_stays}
use Rattle.lf_barrier.proofs.FieldWrites.RoomHere.{room_here}
use Rattle.lf_barrier.proofs.applying.put_inside.Goals as goal

pub set_field-old-requires-clause-there : goal.set_field-old-requires-clause-there
set_field-old-requires-clause-there g c =
    let h = c.requires.state in
    let s = h.0 in
    let d = h.1.0 in
    let w = h.1.1.0 in
    let al = h.1.1.1 in
    let rows = g.S.Store.rows c.args.store.now in
    let x = c.args.x in
    let k = c.args.key in
    let v = c.args.v in
    let home = c.args.home in
    let ms = c.args.moved.now in
    has_row_by_owner rows s.rows x (In home) ((d.counts).store).rows w.target

pub set_field-old-requires-clause-room : goal.set_field-old-requires-clause-room
set_field-old-requires-clause-room g c =
    let h = c.requires.state in
    let s = h.0 in
    let d = h.1.0 in
    let w = h.1.1.0 in
    let al = h.1.1.1 in
    let rows = g.S.Store.rows c.args.store.now in
    let x = c.args.x in
    let k = c.args.key in
    let v = c.args.v in
    let home = c.args.home in
    let ms = c.args.moved.now in
    let few : room_for_field rows x k ≤ g.S.Store.spare c.args.store.now (In home) = omega (arith, c.requires.room) in
    room_here rows s.rows (g.S.Store.spare c.args.store.now) x (In home) (room_for_field rows x k) ((d.counts).store).rows w.target few

pub uncount_inner-requires-clause-may : goal.uncount_inner-requires-clause-may
uncount_inner-requires-clause-may g c κs within =
    let h = c.requires.state in
    let s = h.0 in
    let d = h.1.0 in
    let w = h.1.1.0 in
    let al = h.1.1.1 in
    let rows = g.S.Store.rows c.args.store.now in
    let x = c.args.x in
    let k = c.args.key in
    let v = c.args.v in
    let home = c.args.home in
    let ms = c.args.moved.now in
    let old = c.set_field-old.result in
    let is = c.set_field-old.ensures.value ∙ field_told rows s.rows x k ((d.counts).store).rows in
    let to_lose = may_uncount_old s x k v home ms w al rows (g.S.Store.rows c.set_field-old.new.self) c.args.regions.now d.counts c.set_field-old.ensures.rows old is in
    (put s x k v home ms w al, (near_edges s, (left s x k v home ms w al, (x, to_lose))))

pub uncount_rows-requires-clause-may : goal.uncount_rows-requires-clause-may
uncount_rows-requires-clause-may g c κs within =
    let h = c.requires.state in
    let s = h.0 in
    let d = h.1.0 in
    let w = h.1.1.0 in
    let al = h.1.1.1 in
    let rows = g.S.Store.rows c.args.store.now in
    let x = c.args.x in
    let k = c.args.key in
    let v = c.args.v in
    let home = c.args.home in
    let ms = c.args.moved.now in
    let old = c.set_field-old.result in
    let is = c.set_field-old.ensures.value ∙ field_told rows s.rows x k ((d.counts).store).rows in
    let to_lose = may_uncount_old s x k v home ms w al rows (g.S.Store.rows c.set_field-old.new.self) c.args.regions.now d.counts c.set_field-old.ensures.rows old is in
    let lost = c.uncount_inner.ensures.counted (put s x k v home ms w al) (near_edges s) (left s x k v home ms w al) x to_lose in
    let to_part = may_uncount_moved s x k v home ms w al (g.S.Store.rows c.uncount_inner.new.store) c.uncount_inner.new.regions lost in
    (put s x k v home ms w al, (left s x k v home ms w al, (rest s x k v home ms w al, to_part)))

pub give_rows-requires-clause-may : goal.give_rows-requires-clause-may
give_rows-requires-clause-may g c κs within =
    let h = c.requires.state in
    let s = h.0 in
    let d = h.1.0 in
    let w = h.1.1.0 in
    let al = h.1.1.1 in
    let rows = g.S.Store.rows c.args.store.now in
    let x = c.args.x in
    let k = c.args.key in
    let v = c.args.v in
    let home = c.args.home in
    let ms = c.args.moved.now in
    let old = c.set_field-old.result in
    let is = c.set_field-old.ensures.value ∙ field_told rows s.rows x k ((d.counts).store).rows in
    let to_lose = may_uncount_old s x k v home ms w al rows (g.S.Store.rows c.set_field-old.new.self) c.args.regions.now d.counts c.set_field-old.ensures.rows old is in
    let lost = c.uncount_inner.ensures.counted (put s x k v home ms w al) (near_edges s) (left s x k v home ms w al) x to_lose in
    let to_part = may_uncount_moved s x k v home ms w al (g.S.Store.rows c.uncount_inner.new.store) c.uncount_inner.new.regions lost in
    let apart = c.uncount_rows.ensures.counted (put s x k v home ms w al) (left s x k v home ms w al) (rest s x k v home ms w al) to_part in
    let to_give = may_give s x k v home ms w al (g.S.Store.rows c.uncount_rows.new.store) c.uncount_rows.new.regions d.few apart in
    (put s x k v home ms w al, (rest s x k v home ms w al, to_give))

pub give_rows-requires-clause-room : goal.give_rows-requires-clause-room
give_rows-requires-clause-room g c κs within =
    let h = c.requires.state in
    let s = h.0 in
    let d = h.1.0 in
    let w = h.1.1.0 in
    let al = h.1.1.1 in
    let rows = g.S.Store.rows c.args.store.now in
    let x = c.args.x in
    let k = c.args.key in
    let v = c.args.v in
    let home = c.args.home in
    let ms = c.args.moved.now in
    let old = c.set_field-old.result in
    let is = c.set_field-old.ensures.value ∙ field_told rows s.rows x k ((d.counts).store).rows in
    let to_lose = may_uncount_old s x k v home ms w al rows (g.S.Store.rows c.set_field-old.new.self) c.args.regions.now d.counts c.set_field-old.ensures.rows old is in
    let lost = c.uncount_inner.ensures.counted (put s x k v home ms w al) (near_edges s) (left s x k v home ms w al) x to_lose in
    let to_part = may_uncount_moved s x k v home ms w al (g.S.Store.rows c.uncount_inner.new.store) c.uncount_inner.new.regions lost in
    let apart = c.uncount_rows.ensures.counted (put s x k v home ms w al) (left s x k v home ms w al) (rest s x k v home ms w al) to_part in
    let to_give = may_give s x k v home ms w al (g.S.Store.rows c.uncount_rows.new.store) c.uncount_rows.new.regions d.few apart in
    omega (
      arith,
      c.requires.room,
      c.set_field-old.ensures.room (In home),
      c.uncount_inner.ensures.room (In home),
      c.uncount_rows.ensures.room (In home),
      room_stays s x k v home ms w al rows (g.S.Store.rows c.uncount_rows.new.store) ((d.counts).store).rows (apart.store).rows,
    )

pub count_rows-requires-clause-may : goal.count_rows-requires-clause-may
count_rows-requires-clause-may g c κs within =
    let h = c.requires.state in
    let s = h.0 in
    let d = h.1.0 in
    let w = h.1.1.0 in
    let al = h.1.1.1 in
    let rows = g.S.Store.rows c.args.store.now in
    let x = c.args.x in
    let k = c.args.key in
    let v = c.args.v in
    let home = c.args.home in
    let ms = c.args.moved.now in
    let old = c.set_field-old.result in
    let is = c.set_field-old.ensures.value ∙ field_told rows s.rows x k ((d.counts).store).rows in
    let to_lose = may_uncount_old s x k v home ms w al rows (g.S.Store.rows c.set_field-old.new.self) c.args.regions.now d.counts c.set_field-old.ensures.rows old is in
    let lost = c.uncount_inner.ensures.counted (put s x k v home ms w al) (near_edges s) (left s x k v home ms w al) x to_lose in
    let to_part = may_uncount_moved s x k v home ms w al (g.S.Store.rows c.uncount_inner.new.store) c.uncount_inner.new.regions lost in
    let apart = c.uncount_rows.ensures.counted (put s x k v home ms w al) (left s x k v home ms w al) (rest s x k v home ms w al) to_part in
    let to_give = may_give s x k v home ms w al (g.S.Store.rows c.uncount_rows.new.store) c.uncount_rows.new.regions d.few apart in
    let given = c.give_rows.ensures.counted (put s x k v home ms w al) (rest s x k v home ms w al) to_give in
    let to_count = may_count_moved s x k v home ms w al (g.S.Store.rows c.give_rows.new.store) c.give_rows.new.regions d.few given in
    (now s x k v home ms w al, (rest s x k v home ms w al, to_count))

pub count_inner-requires-clause-may : goal.count_inner-requires-clause-may
count_inner-requires-clause-may g c κs within =
    let h = c.requires.state in
    let s = h.0 in
    let d = h.1.0 in
    let w = h.1.1.0 in
    let al = h.1.1.1 in
    let rows = g.S.Store.rows c.args.store.now in
    let x = c.args.x in
    let k = c.args.key in
    let v = c.args.v in
    let home = c.args.home in
    let ms = c.args.moved.now in
    let old = c.set_field-old.result in
    let is = c.set_field-old.ensures.value ∙ field_told rows s.rows x k ((d.counts).store).rows in
    let to_lose = may_uncount_old s x k v home ms w al rows (g.S.Store.rows c.set_field-old.new.self) c.args.regions.now d.counts c.set_field-old.ensures.rows old is in
    let lost = c.uncount_inner.ensures.counted (put s x k v home ms w al) (near_edges s) (left s x k v home ms w al) x to_lose in
    let to_part = may_uncount_moved s x k v home ms w al (g.S.Store.rows c.uncount_inner.new.store) c.uncount_inner.new.regions lost in
    let apart = c.uncount_rows.ensures.counted (put s x k v home ms w al) (left s x k v home ms w al) (rest s x k v home ms w al) to_part in
    let to_give = may_give s x k v home ms w al (g.S.Store.rows c.uncount_rows.new.store) c.uncount_rows.new.regions d.few apart in
    let given = c.give_rows.ensures.counted (put s x k v home ms w al) (rest s x k v home ms w al) to_give in
    let to_count = may_count_moved s x k v home ms w al (g.S.Store.rows c.give_rows.new.store) c.give_rows.new.regions d.few given in
    let counted = c.count_rows.ensures.counted (now s x k v home ms w al) (rest s x k v home ms w al) to_count in
    let to_come = may_count_new s x k v home ms w al (g.S.Store.rows c.count_rows.new.store) c.count_rows.new.regions d.few counted in
    (now s x k v home ms w al, (edges_from (now s x k v home ms w al) ms ++ rest s x k v home ms w al, (x, to_come)))

pub returns-clause-value : goal.returns-clause-value
returns-clause-value g c s d = c.set_field-old.ensures.value ∙ field_told (g.S.Store.rows c.args.store.now) s.rows c.args.x c.args.key ((d.counts).store).rows

pub returns-clause-counts : goal.returns-clause-counts
returns-clause-counts g c s d w al =
    let rows = g.S.Store.rows c.args.store.now in
    let x = c.args.x in
    let k = c.args.key in
    let v = c.args.v in
    let home = c.args.home in
    let ms = c.args.moved.now in
    let old = c.set_field-old.result in
    let is = c.set_field-old.ensures.value ∙ field_told rows s.rows x k ((d.counts).store).rows in
    let to_lose = may_uncount_old s x k v home ms w al rows (g.S.Store.rows c.set_field-old.new.self) c.args.regions.now d.counts c.set_field-old.ensures.rows old is in
    let lost = c.uncount_inner.ensures.counted (put s x k v home ms w al) (near_edges s) (left s x k v home ms w al) x to_lose in
    let to_part = may_uncount_moved s x k v home ms w al (g.S.Store.rows c.uncount_inner.new.store) c.uncount_inner.new.regions lost in
    let apart = c.uncount_rows.ensures.counted (put s x k v home ms w al) (left s x k v home ms w al) (rest s x k v home ms w al) to_part in
    let to_give = may_give s x k v home ms w al (g.S.Store.rows c.uncount_rows.new.store) c.uncount_rows.new.regions d.few apart in
    let given = c.give_rows.ensures.counted (put s x k v home ms w al) (rest s x k v home ms w al) to_give in
    let to_count = may_count_moved s x k v home ms w al (g.S.Store.rows c.give_rows.new.store) c.give_rows.new.regions d.few given in
    let counted = c.count_rows.ensures.counted (now s x k v home ms w al) (rest s x k v home ms w al) to_count in
    let to_come = may_count_new s x k v home ms w al (g.S.Store.rows c.count_rows.new.store) c.count_rows.new.regions d.few counted in
    all_counted s x k v home ms w al (g.S.Store.rows c.count_inner.new.store) c.count_inner.new.regions
    (c.count_inner.ensures.counted (now s x k v home ms w al) (edges_from (now s x k v home ms w al) ms ++ rest s x k v home ms w al) x to_come)

pub returns-clause-steps : goal.returns-clause-steps
returns-clause-steps g c s d w al =
    let rows = g.S.Store.rows c.args.store.now in
    let x = c.args.x in
    let k = c.args.key in
    let v = c.args.v in
    let home = c.args.home in
    let ms = c.args.moved.now in
    let old = c.set_field-old.result in
    let is = c.set_field-old.ensures.value ∙ field_told rows s.rows x k ((d.counts).store).rows in
    let to_lose = may_uncount_old s x k v home ms w al rows (g.S.Store.rows c.set_field-old.new.self) c.args.regions.now d.counts c.set_field-old.ensures.rows old is in
    let lost = c.uncount_inner.ensures.counted (put s x k v home ms w al) (near_edges s) (left s x k v home ms w al) x to_lose in
    let to_part = may_uncount_moved s x k v home ms w al (g.S.Store.rows c.uncount_inner.new.store) c.uncount_inner.new.regions lost in
    let apart = c.uncount_rows.ensures.counted (put s x k v home ms w al) (left s x k v home ms w al) (rest s x k v home ms w al) to_part in
    let to_give = may_give s x k v home ms w al (g.S.Store.rows c.uncount_rows.new.store) c.uncount_rows.new.regions d.few apart in
    let given = c.give_rows.ensures.counted (put s x k v home ms w al) (rest s x k v home ms w al) to_give in
    let to_count = may_count_moved s x k v home ms w al (g.S.Store.rows c.give_rows.new.store) c.give_rows.new.regions d.few given in
    omega (
      arith,
      c.set_field-old.ensures.step,
      c.uncount_inner.ensures.steps,
      c.uncount_rows.ensures.steps (put s x k v home ms w al) (left s x k v home ms w al) (rest s x k v home ms w al) to_part,
      c.give_rows.ensures.steps,
      c.count_rows.ensures.steps (now s x k v home ms w al) (rest s x k v home ms w al) to_count,
      c.count_inner.ensures.steps,
      few_steps s x k v home ms w al,
    )
