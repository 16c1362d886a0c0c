use Rattle.std.proofs.Common.{[], ap, arith, subst, ◌*◌, ◌+◌}
use Rattle.lf_base.specs.PlainChanges.{with_slots}
use Rattle.lf_code.specs.CodeStep.{IsOver, vars_at}
use Rattle.lf_code.specs.RunCode.{first_slots, longest, steps}
use Rattle.lf_code.proofs.Ending.Ends.{enough}
use Rattle.lf_machine.specs.Behaviours.{started}
use Rattle.lf_machine.proofs.laws.started_behaviours_end.Goals as goal

pub returns : goal.returns
returns c = λ p ticks job s ticked.
    subst (λ n. IsOver (steps p n (started p ticks job s))) (ap (λ k. k * (longest p.bodies + 4)) (omega arith))
    (enough p ticked job.body 0 (record { state = with_slots s (first_slots job.values (vars_at p job.body)); ticks = ticks; lines = []; spawns = [] }))
