use Rattle.std.proofs.Common.{length}
use Rattle.lf_core.proofs.callers.counted.Given as goal

abbrev pub invariant-loop-cown : goal.invariant-loop-cown
invariant-loop-cown l = Unit {0}

abbrev pub decreases-loop-cown : goal.decreases-loop-cown
decreases-loop-cown l = length l.held
