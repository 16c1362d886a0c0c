use Rattle.lf_transfer.proofs.Taken.TakenRows.{Finding}
use Rattle.lf_transfer.proofs.taking.find_taken.Given as goal

abbrev pub invariant-loop-at : goal.invariant-loop-at
invariant-loop-at g l = Finding (g.S.Store.rows l.store) l.fn.v l.at l.found.taken.keys l.found.regions.keys l.found.rows
