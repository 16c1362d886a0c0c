use Rattle.std.proofs.Common.{ap, subst, sym, ◌∙◌}
use Rattle.lf_base.specs.Contents.{stored}
use Rattle.lf_code.specs.CodeStep.{IsOver, vars_at}
use Rattle.lf_code.specs.RunCode.{config_result, first_progress, most_steps}
use Rattle.lf_code.proofs.Ending.Ends.{enough}
use Rattle.lf_machine.specs.Behaviours.{started}
use Rattle.lf_machine.proofs.Standing.ManySteps.{one_end}
use Rattle.lf_machine.proofs.laws.runs_to_the_result.Goals as goal

pub returns : goal.returns
returns c = λ p ticks job contents given x ticked from over.
    let begun = started p ticks job (stored job.id contents given) in
    ap config_result (sym from.1
    ∙ one_end p from.0 (most_steps p ticks) begun (subst IsOver (sym from.1) over)
    (enough p ticked job.body 0 (first_progress job contents given (vars_at p job.body) ticks)))
