use Rattle.std.proofs.Common.{take, ◌+◌, ◌≡◌}
use Rattle.std.specs.List.{sum_by}
use Rattle.lf_graph.specs.Room.{room_for_row}
use Rattle.lf_barrier.proofs.planning.room_for.Given as goal

abbrev pub invariant-loop-o : goal.invariant-loop-o
invariant-loop-o g l = l.cells ≡ 1 + sum_by (room_for_row (g.S.Store.rows l.store)) (take l.o-index l.moved)
