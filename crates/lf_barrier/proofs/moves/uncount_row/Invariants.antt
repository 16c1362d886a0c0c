use Rattle.std.proofs.Common.{◌*◌, ◌+◌, ◌≤◌}
use Rattle.lf_graph.specs.Room.{LowersNone}
use Rattle.lf_barrier.proofs.MovingEdges.FieldLoops.{Uncounting}
use Rattle.lf_barrier.proofs.moves.uncount_row.Given as goal

abbrev pub invariant-loop-turn : goal.invariant-loop-turn
invariant-loop-turn g l = record {
  so_far : Uncounting (g.S.Store.rows l.fn.store) (g.S.Store.rows l.store) l.fn.regions l.regions l.p l.last l._turn;
  room : LowersNone (g.S.Store.spare l.fn.store) (g.S.Store.spare l.store);
  steps : l.steps ≤ l.fn.steps + (1 + 3 * l._turn);
}
