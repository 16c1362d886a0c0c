use Rattle.std.proofs.Common.{List, length, ◌*◌, ◌+◌, ◌≤◌}
use Rattle.lf_base.specs.declared.values.Owner.TheVariants.{In}
use Rattle.lf_base.specs.Edges.{Edge}
use Rattle.lf_base.specs.PlainState.{Row}
use Rattle.lf_graph.specs.StoreCounts.{IsStoreOf}
use Rattle.lf_graph.specs.StoredRows.{rows_of}
use Rattle.lf_transfer.specs.RegionRows.{region_cells}
use Rattle.lf_transfer.proofs.GivenRegions.GivenRegion.{GivenSoFar}
use Rattle.lf_transfer.proofs.giving.give_region.Given as goal

abbrev pub invariant-loop-p : goal.invariant-loop-p
invariant-loop-p g l = record {
  given : (of : List Row) (es : List Edge) → IsStoreOf (g.S.Store.rows l.fn.store) of es → GivenSoFar (g.S.Store.rows l.store) of es l.fn.r l.fn.owner;
  room : region_cells (g.S.Store.rows l.store) l.fn.r ≤ g.S.Store.spare l.store l.fn.owner;
  steps : l.steps + 2 * length (rows_of (In l.fn.r) (g.S.Store.rows l.store)) ≤ l.fn.steps + 2 * length (rows_of (In l.fn.r) (g.S.Store.rows l.fn.store));
}

abbrev pub decreases-loop-p : goal.decreases-loop-p
decreases-loop-p g l = length (rows_of (In l.fn.r) (g.S.Store.rows l.store))
