use Rattle.std.proofs.Common.{length, ◌≡◌}
use Rattle.lf_graph.specs.StoredRows.{fields_at}
use Rattle.lf_graph.proofs.Stores.FieldWalks.{Walked}
use Rattle.lf_graph.proofs.callers.walk_fields.Given as goal

abbrev pub invariant-loop-turn : goal.invariant-loop-turn
invariant-loop-turn g l = Walked (fields_at (g.S.Store.rows l.store) l.o) l.fields l.last × (length l.fields ≡ l._turn)
