use Rattle.lf_poolstore.proofs.MovedRows.{Copying}
use Rattle.lf_poolstore.proofs.unit.moves.copied.Given as goal

abbrev pub invariant-loop-step : goal.invariant-loop-step
invariant-loop-step l = Copying l.fn.cells l.fn.from l.fn.row l.cells l.now l.cell l._step
