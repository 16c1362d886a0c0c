-- The code of each script does what the tree means.
use Rattle.std.proofs.Common.{List, None, Option, Some, [], ap, length, refl, ℕ, ◌-◌, ◌∙◌, ◌≡◌}
use Rattle.lf_base.specs.declared.behaviours.Job.{Job}
use Rattle.lf_base.specs.declared.ids.CownId.{CownId}
use Rattle.lf_base.specs.Contents.{Parked}
use Rattle.lf_base.specs.PlainState.{Row}
use Rattle.lf_code.specs.CodeStep.{Config, IsOver, Over, Program, Running, led, new_frame}
use Rattle.lf_code.specs.Progress.{Progress, Fails, Flow, Next, Return}
use Rattle.lf_code.specs.RunCode.{config_result, first_progress, most_steps, run_code, steps}
use Rattle.lf_code.proofs.Ending.Ends.{enough}
use Rattle.lf_code.proofs.Ending.Reaching.{Reaches, done}
use Rattle.lf_codegen.specs.GeneratedCode.{program_of}
use Rattle.lf_codegen.specs.Numbers.{PlainScript, body_vars}
use Rattle.lf_codegen.specs.RunOne.{CodeMeansTree, body_meaning, flow_result, run_one}
use Rattle.lf_codegen.proofs.CodeShape.TickedCode.{is_ticked}
use Rattle.lf_codegen.proofs.Following.Calls.{body_leads, vars_are}

module _ (s : PlainScript) where
  abbrev p : Program
  p = program_of s

  abbrev finish : Progress → Config
  finish c = Over c None

  is_over : (o : Flow) → IsOver (led finish finish o)
  is_over (Next c) = tt
  is_over (Return c) = tt
  is_over (Fails c at) = tt

  same_end : (o : Flow) → config_result (led finish finish o) ≡ flow_result o
  same_end (Next c) = refl
  same_end (Return c) = refl
  same_end (Fails c at) = refl

  body_runs : (body : ℕ) (c : Progress)
      → config_result (steps p (most_steps p c.ticks) (Running (new_frame body 0) [] c)) ≡ flow_result (body_meaning s body c)
  body_runs body c =
      let first : Config = Running (new_frame body 0) [] c in
      let last : Config = led finish finish (body_meaning s body c) in
      let reached : Reaches p first last = body_leads s body c finish in
      ap config_result (done p (most_steps p c.ticks) first last reached (is_over (body_meaning s body c))
      (enough p (is_ticked s) body 0 c))
      ∙ same_end (body_meaning s body c)

  code_means : (ticks : ℕ) (job : Job) (contents : List (CownId × Parked)) (given : List Row)
      → run_code p ticks job contents given ≡ run_one s ticks job contents given
  code_means ticks job contents given =
      ap (λ n. config_result (steps p (most_steps p ticks)
      (Running (new_frame job.body 0) [] (first_progress job contents given n ticks)))) (vars_are s job.body)
      ∙ body_runs job.body (first_progress job contents given (length (body_vars s job.body)) ticks)

pub code_means_tree : CodeMeansTree
code_means_tree s ticks job contents given = code_means s ticks job contents given
