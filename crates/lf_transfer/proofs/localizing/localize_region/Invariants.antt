use Rattle.std.proofs.Common.{length}
use Rattle.lf_base.specs.declared.values.Owner.TheVariants.{In}
use Rattle.lf_graph.specs.StoredRows.{rows_of}
use Rattle.lf_transfer.specs.RegionRows.{RegionsThere}
use Rattle.lf_transfer.proofs.Tables.LocalRows.{RegionLocal}
use Rattle.lf_transfer.proofs.Walks.RegionWalk.{rows_from}
use Rattle.lf_transfer.proofs.localizing.localize_region.Given as goal

abbrev pub invariant-loop-next : goal.invariant-loop-next
invariant-loop-next g l = record {
  so_far : RegionLocal (g.S.Store.rows l.store) l.fn.r l.next l.fn.regions l.regions l.fn.steps l.steps;
  there : RegionsThere (g.S.Store.rows l.store) l.regions;
}

abbrev pub decreases-loop-next : goal.decreases-loop-next
decreases-loop-next g l = length (rows_from l.next (rows_of (In l.fn.r) (g.S.Store.rows l.store)))
