use Rattle.std.proofs.Common.{List, drop, length, ◌*◌, ◌+◌, ◌≤◌}
use Rattle.std.specs.List.{sum_by}
use Rattle.lf_base.specs.Edges.{Edge}
use Rattle.lf_base.specs.PlainState.{Row}
use Rattle.lf_barrier.specs.MovingEdges.{MayCountRows, fields_in}
use Rattle.lf_barrier.proofs.MovingEdges.RowLoops.{RowsCounted}
use Rattle.lf_barrier.proofs.moves.count_rows.Given as goal

abbrev pub invariant-loop-o : goal.invariant-loop-o
invariant-loop-o g l = record {
  so_far : (of : List Row) (es : List Edge) → MayCountRows (g.S.Store.rows l.fn.store) l.fn.regions of es l.moved l.home
      → RowsCounted (g.S.Store.rows l.store) l.regions of es (drop l.o-index l.moved) l.moved;
  steps : (of : List Row) (es : List Edge) → MayCountRows (g.S.Store.rows l.fn.store) l.fn.regions of es l.moved l.home
      → l.steps + 3 * sum_by (λ o. length (fields_in of o)) (drop l.o-index l.moved) ≤ l.fn.steps + (l.o-index + 3 * sum_by (λ o. length (fields_in of o)) l.moved);
}
