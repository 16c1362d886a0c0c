use Rattle.lf_machine.specs.Behaviours.{most_left}
use Rattle.lf_machine.proofs.Standing.ManySteps.{comes_further, fewer_left, over_after}
use Rattle.lf_machine.proofs.running.run_on.Goals as goal

pub loop-running-smaller : goal.loop-running-smaller
loop-running-smaller g c =
    fewer_left c.args.code.now (most_left c.args.code.now c.args.running.now) c.loop-running.running c.step.new.self
    (c.is_going.ensures.0 c.loop-running-test.true) c.in_ok-step.ensures.step c.loop-running.invariant.ends

pub loop-running-preserved : goal.loop-running-preserved
loop-running-preserved g c =
    let going = c.is_going.ensures.0 c.loop-running-test.true in
    record {
      stands = c.in_ok-step.ensures.stands;
      from = comes_further c.args.code.now c.args.running.now c.loop-running.running c.step.new.self c.loop-running.invariant.from going c.in_ok-step.ensures.step;
      ends = over_after c.args.code.now (most_left c.args.code.now c.args.running.now) c.loop-running.running c.step.new.self going c.in_ok-step.ensures.step
          c.loop-running.invariant.ends;
    }
