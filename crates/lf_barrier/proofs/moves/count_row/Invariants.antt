use Rattle.std.proofs.Common.{◌*◌, ◌+◌, ◌≤◌}
use Rattle.lf_barrier.proofs.MovingEdges.FieldLoops.{Counting}
use Rattle.lf_barrier.proofs.moves.count_row.Given as goal

abbrev pub invariant-loop-turn : goal.invariant-loop-turn
invariant-loop-turn g l = record {
  so_far : Counting (g.S.Store.rows l.fn.store) (g.S.Store.rows l.store) l.fn.regions l.regions l.p l.home l.last l._turn;
  steps : l.steps ≤ l.fn.steps + (1 + 3 * l._turn);
}
