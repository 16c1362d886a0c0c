use Rattle.std.proofs.Common.{ap, map, refl, ◌∙◌}
use Rattle.lf_base.specs.PlainChanges.{first_state}
use Rattle.lf_frozen.specs.FrozenRows.{as_row}
use Rattle.lf_app.proofs.MainRuns.{main_ends, main_left}
use Rattle.lf_app.proofs.UnbuiltLines.{all_run}
use Rattle.lf_app.proofs.main_run.run_main.Goals as goal

pub start-requires-clause-runs : goal.start-requires-clause-runs
start-requires-clause-runs g c κs within = all_run c.args.code.now c.requires.built

pub run_to_end-requires-clause-ends : goal.run_to_end-requires-clause-ends
run_to_end-requires-clause-ends g c κs within =
    main_ends c.args.code.now c.args.ticks c.main_job-job.result _ _ c.started_behaviours_end.ensures c.requires.ticked
    c.main_job-job.ensures (c.in_ok-heap.ensures ∙ ap (λ rows. first_state 0 (map as_row rows)) c.new.ensures) c.in-Ok.ensures.started

pub returns : goal.returns
returns g c =
    main_left c.args.code.now c.args.ticks c.main_job-job.result _ c.in-Ok.running c.run_to_end.new.self _ _ _ _ _
    c.runs_to_the_result.ensures c.requires.ticked c.main_job-job.ensures (c.in_ok-heap.ensures ∙ ap (λ rows. first_state 0 (map as_row rows)) c.new.ensures) c.in-Ok.ensures.started
    c.in_ok-run_to_end.ensures.steps c.in_ok-run_to_end.ensures.ended c.finish-heap.ensures refl refl
