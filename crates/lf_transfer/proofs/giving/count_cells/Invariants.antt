use Rattle.std.proofs.Common.{length}
use Rattle.lf_base.specs.declared.values.Owner.TheVariants.{In}
use Rattle.lf_graph.specs.StoredRows.{rows_of}
use Rattle.lf_transfer.proofs.GivenRegions.RegionCells.{CellsCounted}
use Rattle.lf_transfer.proofs.Walks.RegionWalk.{rows_from}
use Rattle.lf_transfer.proofs.giving.count_cells.Given as goal

abbrev pub invariant-loop-next : goal.invariant-loop-next
invariant-loop-next g l = CellsCounted (g.S.Store.rows l.store) l.fn.r l.next l.cells

abbrev pub decreases-loop-next : goal.decreases-loop-next
decreases-loop-next g l = length (rows_from l.next (rows_of (In l.fn.r) (g.S.Store.rows l.store)))
