use Rattle.std.proofs.Common.{length}
use Rattle.lf_base.specs.declared.values.Owner.TheVariants.{In}
use Rattle.lf_graph.specs.StoredRows.{rows_of}
use Rattle.lf_transfer.proofs.Freezes.LostBorrows.{RegionCounted}
use Rattle.lf_transfer.proofs.Walks.RegionWalk.{rows_from}
use Rattle.lf_transfer.proofs.losing.lost_borrows.Given as goal

abbrev pub invariant-loop-next : goal.invariant-loop-next
invariant-loop-next g l = RegionCounted (g.S.Store.rows l.store) l.fn.taken.keys l.fn.r l.next l.all l.inner

abbrev pub decreases-loop-next : goal.decreases-loop-next
decreases-loop-next g l = length (rows_from l.next (rows_of (In l.fn.r) (g.S.Store.rows l.store)))
