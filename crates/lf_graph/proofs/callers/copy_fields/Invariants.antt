use Rattle.std.proofs.Common.{take, ◌≡◌}
use Rattle.lf_graph.specs.StoredRows.{fields_at}
use Rattle.lf_graph.proofs.callers.copy_fields.Given as goal

abbrev pub invariant-loop-at : goal.invariant-loop-at
invariant-loop-at g l = l.fields ≡ take l.at (fields_at (g.S.Store.rows l.store) l.o)
