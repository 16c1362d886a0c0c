use Rattle.std.proofs.Common.{List, drop, ◌*◌, ◌+◌, ◌≡◌, ◌≤◌}
use Rattle.std.specs.List.{sum_by}
use Rattle.lf_base.specs.declared.ids.ObjId.{ObjId}
use Rattle.lf_base.specs.declared.values.Owner.TheVariants.{In}
use Rattle.lf_base.specs.Edges.{Edge}
use Rattle.lf_base.specs.PlainState.{Row}
use Rattle.lf_graph.specs.Room.{room_for_row}
use Rattle.lf_graph.specs.StoredRows.{fields_at}
use Rattle.lf_barrier.specs.MovingEdges.{MayGiveRows}
use Rattle.lf_barrier.proofs.MovingEdges.RowLoops.{Given}
use Rattle.lf_barrier.proofs.moves.give_rows.Given as goal

abbrev pub invariant-loop-o : goal.invariant-loop-o
invariant-loop-o g l = record {
  given : (of : List Row) (es : List Edge) → MayGiveRows (g.S.Store.rows l.fn.store) l.fn.regions of es l.moved l.home
      → Given (g.S.Store.rows l.fn.store) (g.S.Store.rows l.store) l.regions of es (drop l.o-index l.moved) l.moved l.home;
  room : sum_by (room_for_row (g.S.Store.rows l.fn.store)) (drop l.o-index l.moved) ≤ g.S.Store.spare l.store (In l.home);
  fields : (o : ObjId) → fields_at (g.S.Store.rows l.store) o ≡ fields_at (g.S.Store.rows l.fn.store) o;
  steps : l.steps ≤ l.fn.steps + 2 * l.o-index;
}
