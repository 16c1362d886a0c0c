use Rattle.lf_app.proofs.TicksSoFar.{TicksSoFar}
use Rattle.lf_app.proofs.ticks.ticks_of.Given as goal

abbrev pub invariant-loop-byte : goal.invariant-loop-byte
invariant-loop-byte l = TicksSoFar l.number l.byte-index l.ticks
