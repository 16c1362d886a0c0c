use Rattle.lf_transfer.proofs.Freezes.FrozenCounts.{Removing}
use Rattle.lf_transfer.proofs.freezing.remove_rows.Given as goal

abbrev pub invariant-loop-o : goal.invariant-loop-o
invariant-loop-o g l = Removing (g.S.Store.rows l.fn.store) (g.S.Store.rows l.store) l.names l.o-index
