use Rattle.std.proofs.Common.{◌*◌, ◌+◌, ◌≤◌}
use Rattle.lf_graph.specs.StoredRows.{fields_at}
use Rattle.lf_transfer.specs.RegionRows.{RegionsThere}
use Rattle.lf_transfer.proofs.Tables.LocalRows.{RowLocal}
use Rattle.lf_transfer.proofs.localizing.localize_row.Given as goal

abbrev pub invariant-loop-turn : goal.invariant-loop-turn
invariant-loop-turn g l = record {
  so_far : RowLocal (g.S.Store.rows l.store) l.fn.r (fields_at (g.S.Store.rows l.store) l.fn.p) l.last l._turn l.fn.regions l.regions;
  there : RegionsThere (g.S.Store.rows l.store) l.regions;
  steps : l.steps ≤ l.fn.steps + (1 + 2 * l._turn);
}
