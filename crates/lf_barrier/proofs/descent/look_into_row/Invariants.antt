use Rattle.lf_graph.specs.StoredRows.{fields_at}
use Rattle.lf_barrier.proofs.Descents.OwnedRegions.{RowLooked}
use Rattle.lf_barrier.proofs.descent.look_into_row.Given as goal

abbrev pub invariant-loop-turn : goal.invariant-loop-turn
invariant-loop-turn g l = RowLooked (g.S.Store.rows l.store) l.r l.home (fields_at (g.S.Store.rows l.store) l.p) l.last l._turn l.fn.visited.keys l.visited.keys
