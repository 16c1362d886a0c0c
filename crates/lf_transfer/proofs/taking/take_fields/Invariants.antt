use Rattle.lf_graph.specs.StoredRows.{fields_at}
use Rattle.lf_transfer.specs.Taking.{is_stored}
use Rattle.lf_transfer.proofs.Taken.TakenObjects.{FieldsTaken}
use Rattle.lf_transfer.proofs.taking.take_fields.Given as goal

abbrev pub invariant-loop-turn : goal.invariant-loop-turn
invariant-loop-turn g l = FieldsTaken (is_stored (g.S.Store.rows l.store)) (fields_at (g.S.Store.rows l.store) l.p) l.last l._turn l.fields l.fn.taken.keys l.taken.keys
