use Rattle.lf_graph.specs.StoredRows.{fields_at}
use Rattle.lf_heap.proofs.RegionWalks.RowsLooked.{FieldsLooked}
use Rattle.lf_heap.proofs.openness.look_into_row.Given as goal

abbrev pub invariant-loop-turn : goal.invariant-loop-turn
invariant-loop-turn g l = FieldsLooked (g.S.Store.rows l.store) l.regions l.r (fields_at (g.S.Store.rows l.store) l.p) l.last l._turn l.fn.found l.found l.«open»
