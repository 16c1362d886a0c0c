use Rattle.lf_graph.specs.StoredRows.{fields_at}
use Rattle.lf_transfer.proofs.RegionsBelow.FoundBridges.{FieldsFound}
use Rattle.lf_transfer.proofs.below.look_into_row.Given as goal

abbrev pub invariant-loop-turn : goal.invariant-loop-turn
invariant-loop-turn g l = FieldsFound (g.S.Store.rows l.store) l.q (fields_at (g.S.Store.rows l.store) l.p) l.last l._turn l.fn.below l.below
