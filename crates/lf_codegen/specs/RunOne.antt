-- A behaviour run to its end by its tree, and that its code does the same.
use Rattle.std.specs.Prelude.{List, None, Some, length, ℕ, ◌≡◌, ◌-◌}
use Rattle.lf_base.specs.declared.behaviours.Job.{Job}
use Rattle.lf_base.specs.declared.ids.CownId.{CownId}
use Rattle.lf_base.specs.declared.limits.TheConstants.{MOST_FRAMES}
use Rattle.lf_base.specs.Contents.{Parked}
use Rattle.lf_base.specs.PlainState.{Row}
use Rattle.lf_code.specs.CodeStep.{Program}
use Rattle.lf_code.specs.Progress.{Progress, Fails, Flow, Next, Return}
use Rattle.lf_code.specs.RunCode.{RunResult, first_progress, result_of, run_code}
use Rattle.lf_codegen.specs.GeneratedCode.{program_of}
use Rattle.lf_codegen.specs.Meaning.{block_meaning, calls_within_frames, frame_end}
use Rattle.lf_codegen.specs.Numbers.{PlainScript, body_block, body_vars}

abbrev pub flow_result : Flow → RunResult
flow_result (Next c) = result_of c None
flow_result (Return c) = result_of c None
flow_result (Fails c at) = result_of c (Some at)

-- what a body means that has the only frame
abbrev pub body_meaning : PlainScript → ℕ → Progress → Flow
body_meaning s body c =
    frame_end 0 (block_meaning s (body_vars s body) 0 (calls_within_frames s (MOST_FRAMES - 1)) (body_block s body) c)

-- what comes of a job by its tree, with the contents of its cowns and some frozen rows, within a budget of ticks
abbrev pub run_one : PlainScript → ℕ → Job → List (CownId × Parked) → List Row → RunResult
run_one s ticks job contents given =
    flow_result (body_meaning s job.body (first_progress job contents given (length (body_vars s job.body)) ticks))

-- code does what a script's tree means, whatever the ticks, the job, the contents of its cowns and the frozen rows
abbrev pub MeansTree : Program → PlainScript → Type 0
MeansTree code s = (ticks : ℕ) (job : Job) (contents : List (CownId × Parked)) (given : List Row)
    → run_code code ticks job contents given ≡ run_one s ticks job contents given

-- the code of each script does what its tree means
abbrev pub CodeMeansTree : Type 0
CodeMeansTree = (s : PlainScript) → MeansTree (program_of s) s
