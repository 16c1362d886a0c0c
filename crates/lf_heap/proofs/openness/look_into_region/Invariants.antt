use Rattle.std.proofs.Common.{length}
use Rattle.lf_base.specs.declared.values.Owner.TheVariants.{In}
use Rattle.lf_graph.specs.StoredRows.{rows_of}
use Rattle.lf_heap.proofs.RegionWalks.RowsLooked.{RowsLooked, rows_onward}
use Rattle.lf_heap.proofs.openness.look_into_region.Given as goal

abbrev pub invariant-loop-next : goal.invariant-loop-next
invariant-loop-next g l = RowsLooked (g.S.Store.rows l.store) l.regions l.r l.next l.fn.found l.found l.«open»

abbrev pub decreases-loop-next : goal.decreases-loop-next
decreases-loop-next g l = length (rows_onward l.next (rows_of (In l.r) (g.S.Store.rows l.store)))
