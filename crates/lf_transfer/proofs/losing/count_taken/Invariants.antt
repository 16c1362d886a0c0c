use Rattle.lf_graph.specs.StoredRows.{fields_at}
use Rattle.lf_transfer.proofs.Freezes.LostBorrows.{RowCounted}
use Rattle.lf_transfer.proofs.losing.count_taken.Given as goal

abbrev pub invariant-loop-turn : goal.invariant-loop-turn
invariant-loop-turn g l = RowCounted (g.S.Store.rows l.store) l.taken.keys l.r (fields_at (g.S.Store.rows l.store) l.p) l.last l._turn l.count
