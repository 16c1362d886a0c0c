use Rattle.std.proofs.Common.{ap, length, subst, sym, ◌∙◌, ◌≤◌}
use Rattle.lf_base.specs.PlainState.{State}
use Rattle.lf_machine.specs.Standing.{FramesStand}
use Rattle.lf_machine.specs.Views.{frames_below}
use Rattle.lf_machine.proofs.Standing.ValidParts.{params_within}
use Rattle.lf_machine.proofs.Starting.{first_slots_length, start_stands}
use Rattle.lf_machine.proofs.running.Running.start.Goals as goal

pub add_variables-requires-clause-few : goal.add_variables-requires-clause-few
add_variables-requires-clause-few g c κs within =
    let code = c.args.code.now in
    let job = c.args.job.now in
    subst (λ n. length job.values ≤ n) (sym c.vars_of-vars.ensures) (params_within code c.known_valid.ensures job.body (length job.values) c.requires.body)

pub returns-clause-stands : goal.returns-clause-stands
returns-clause-stands g c =
    let code = c.args.code.now in
    let job = c.args.job.now in
    let vars = c.vars_of-vars.result in
    let few : length job.values ≤ vars = subst (λ n. length job.values ≤ n) (sym c.vars_of-vars.ensures) (params_within code c.known_valid.ensures job.body (length job.values) c.requires.body) in (
      c.requires.runs,
      (
        start_stands code job.body (length job.values) (length c.new.result.state.slots) c.requires.body
            (ap (λ (s : State). length s.slots) (c.new.ensures.state ∙ c.add_variables.ensures) ∙ first_slots_length job.values vars few ∙ c.vars_of-vars.ensures),
        subst (λ fs. FramesStand code 1 (frames_below fs)) (sym c.new-2.ensures.items) tt,
      ),
    )
