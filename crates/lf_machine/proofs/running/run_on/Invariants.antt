use Rattle.lf_code.specs.CodeStep.{IsOver}
use Rattle.lf_code.specs.RunCode.{steps}
use Rattle.lf_machine.specs.Behaviours.{ComesFrom, most_left}
use Rattle.lf_machine.specs.Standing.{StandsIn}
use Rattle.lf_machine.proofs.Standing.ManySteps.{left}
use Rattle.lf_machine.proofs.running.run_on.Given as goal

abbrev pub invariant-loop-running : goal.invariant-loop-running
invariant-loop-running g l = record {
  stands : StandsIn l.code l.running;
  from : ComesFrom l.code l.initial.running l.running;
  ends : IsOver (steps l.code (most_left l.code l.initial.running) l.running);
}

abbrev pub decreases-loop-running : goal.decreases-loop-running
decreases-loop-running g l = left l.code (most_left l.code l.initial.running) l.running
