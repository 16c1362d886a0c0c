use Rattle.std.proofs.Common.{List, drop, length, ◌*◌, ◌+◌, ◌++◌, ◌≤◌}
use Rattle.std.specs.List.{sum_by}
use Rattle.lf_base.specs.Edges.{Edge}
use Rattle.lf_base.specs.PlainState.{Row}
use Rattle.lf_base.specs.TouchedEdges.{edges_from}
use Rattle.lf_graph.specs.Room.{LowersNone}
use Rattle.lf_domain.specs.Counts.{Counts}
use Rattle.lf_barrier.specs.MovingEdges.{MayUncountRows, fields_in}
use Rattle.lf_barrier.proofs.moves.uncount_rows.Given as goal

abbrev pub invariant-loop-o : goal.invariant-loop-o
invariant-loop-o g l = record {
  left : (of : List Row) (es fs : List Edge) → MayUncountRows (g.S.Store.rows l.fn.store) l.fn.regions of es fs l.moved
      → Counts (g.S.Store.rows l.store) l.regions of (edges_from of (drop l.o-index l.moved) ++ fs);
  room : LowersNone (g.S.Store.spare l.fn.store) (g.S.Store.spare l.store);
  steps : (of : List Row) (es fs : List Edge) → MayUncountRows (g.S.Store.rows l.fn.store) l.fn.regions of es fs l.moved
      → l.steps + 3 * sum_by (λ o. length (fields_in of o)) (drop l.o-index l.moved) ≤ l.fn.steps + (l.o-index + 3 * sum_by (λ o. length (fields_in of o)) l.moved);
}
