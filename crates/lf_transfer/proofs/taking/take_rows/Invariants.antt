use Rattle.std.proofs.Common.{length}
use Rattle.lf_base.specs.declared.values.Owner.TheVariants.{In}
use Rattle.lf_graph.specs.StoredRows.{rows_of}
use Rattle.lf_transfer.proofs.Taken.TakenObjects.{RowsTaken}
use Rattle.lf_transfer.proofs.Walks.RegionWalk.{rows_from}
use Rattle.lf_transfer.proofs.taking.take_rows.Given as goal

abbrev pub invariant-loop-next : goal.invariant-loop-next
invariant-loop-next g l = RowsTaken (g.S.Store.rows l.store) l.fn.r l.next l.fn.taken.keys l.taken.keys

abbrev pub decreases-loop-next : goal.decreases-loop-next
decreases-loop-next g l = length (rows_from l.next (rows_of (In l.fn.r) (g.S.Store.rows l.store)))
