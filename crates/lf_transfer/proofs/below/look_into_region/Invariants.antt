use Rattle.std.proofs.Common.{length}
use Rattle.lf_base.specs.declared.values.Owner.TheVariants.{In}
use Rattle.lf_graph.specs.StoredRows.{rows_of}
use Rattle.lf_transfer.proofs.RegionsBelow.FoundBridges.{RowsFound}
use Rattle.lf_transfer.proofs.Walks.RegionWalk.{rows_from}
use Rattle.lf_transfer.proofs.below.look_into_region.Given as goal

abbrev pub invariant-loop-next : goal.invariant-loop-next
invariant-loop-next g l = RowsFound (g.S.Store.rows l.store) l.fn.q l.next l.fn.below l.below

abbrev pub decreases-loop-next : goal.decreases-loop-next
decreases-loop-next g l = length (rows_from l.next (rows_of (In l.fn.q) (g.S.Store.rows l.store)))
