use Rattle.lf_code.specs.CodeStep.{Running, code_step}
use Rattle.lf_machine.specs.Views.{frame_of, frames_below}
use Rattle.lf_machine.proofs.Standing.StepStands.{answer_led, answer_stands, found_ready, led_stands}
use Rattle.lf_machine.proofs.running.step_alone.Goals as goal

pub do_instr-requires-clause-ready : goal.do_instr-requires-clause-ready
do_instr-requires-clause-ready g c κs within =
    let stage = c.args.stage.now in
    found_ready c.args.code.now c.known_valid.ensures (frame_of stage.frame) (frames_below stage.below.items) stage.progress c.requires.stands
    c.instr_at-placed.result.now c.instr_at-placed.ensures.there

pub returns-clause-step : goal.returns-clause-step
returns-clause-step g c =
    let stage = c.args.stage.now in
    answer_led c.args.code.now _ _ (frame_of stage.frame) (frames_below stage.below.items) stage.progress c.instr_at-placed.result.now _
    c.instr_at-placed.ensures.there c.do_instr.ensures.done

pub returns-clause-stands : goal.returns-clause-stands
returns-clause-stands g c =
    let stage = c.args.stage.now in
    let before = Running (frame_of stage.frame) (frames_below stage.below.items) stage.progress in
    answer_stands c.args.code.now _ _ (code_step c.args.code.now before) (returns-clause-step g c)
    (led_stands c.args.code.now c.known_valid.ensures before c.requires.stands)
