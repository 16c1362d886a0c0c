use Rattle.lf_graph.specs.StoredRows.{fields_at}
use Rattle.lf_transfer.proofs.Walks.References.{RowSearched}
use Rattle.lf_transfer.proofs.bridges.row_refers_to.Given as goal

abbrev pub invariant-loop-turn : goal.invariant-loop-turn
invariant-loop-turn g l = RowSearched (fields_at (g.S.Store.rows l.store) l.p) l.last l._turn l.o
