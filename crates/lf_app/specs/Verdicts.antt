-- What comes of a script's bytes under each command.
use Rattle.std.specs.Prelude.{◌≡◌, ◌⊎◌, ℕ, List, [], Option, Some, None}
use Rattle.lf_base.specs.declared.behaviours.Job.{Job}
use Rattle.lf_base.specs.declared.faults.FaultAt.{FaultAt}
use Rattle.lf_base.specs.declared.refusals.Refusal.{Refusal}
use Rattle.lf_base.specs.declared.refusals.RefusalKind.TheVariants.{NotBuilt}
use Rattle.lf_base.specs.Texts.{Text}
use Rattle.lf_parser.specs.Plain.{PlainTree}
use Rattle.lf_code.specs.CodeStep.{Program}
use Rattle.lf_code.specs.RunCode.{RunResult}
use Rattle.lf_codegen.specs.GeneratedCode.{program_of}
use Rattle.lf_codegen.specs.Numbers.{PlainScript}
use Rattle.lf_codegen.specs.RunOne.{run_one}
use Rattle.lf_codegen.specs.ScriptReading.{IsRead, IsFirstRefusal}
use Rattle.lf_app.specs.declared.commands.Command.{Command}
use Rattle.lf_app.specs.declared.commands.Command.TheVariants.{Run, Check, Code}
use Rattle.lf_app.specs.Unbuilt.{first_unbuilt}

-- a script runs, prints these lines and ends by this fault, if one ends it; or it is right, has this code, or is refused
pub data Verdict : Type 0 where
  Runs : List (List ℕ) → Option FaultAt → Verdict
  Checked : Verdict
  Lists : Program → Verdict
  Refuses : Refusal → Verdict

-- main as behaviour 0, without cowns
abbrev pub main_job : Job
main_job = record { id = 0; body = 0; cowns = []; values = [] }

-- what a script's tree means, within a budget of ticks
abbrev pub main_result : PlainScript → ℕ → RunResult
main_result s ticks = run_one s ticks main_job [] []

-- the refusal of a script that has a form that doesn't run yet, on this line first
abbrev pub not_built : ℕ → Refusal
not_built line = record { kind = NotBuilt; place = record { line = line; column = 1 } }

-- the verdict on a run, by the first line with such a form and by what comes of main
abbrev pub run_verdict : Option ℕ → RunResult → Verdict
run_verdict None r = Runs (r.lines) (r.fault)
run_verdict (Some line) r = Refuses (not_built line)

-- the verdict on a script that was read
abbrev pub script_verdict : Command → PlainScript → Verdict
script_verdict (Run ticks) s = run_verdict (first_unbuilt (program_of s)) (main_result s ticks)
script_verdict Check s = Checked
script_verdict Code s = Lists (program_of s)

-- the bytes are a script, and this is the verdict on it
pub record IsOfScript (command : Command) (bytes : List ℕ) (verdict : Verdict) : Type 0 where
  pub texts : List Text
  pub tree : PlainTree
  pub is_read : IsRead bytes texts tree
  pub verdict_is : verdict ≡ script_verdict command (record { texts = texts; tree = tree })

-- the bytes are no script, and this is their first refusal
pub record IsOfRefusal (bytes : List ℕ) (verdict : Verdict) : Type 0 where
  pub refusal : Refusal
  pub is_first : IsFirstRefusal bytes refusal
  pub verdict_is : verdict ≡ Refuses refusal

-- what comes of a script's bytes: a refusal of the language goes before that of a form that doesn't run yet
abbrev pub IsVerdict : Command → List ℕ → Verdict → Type 0
IsVerdict command bytes verdict = IsOfRefusal bytes verdict ⊎ IsOfScript command bytes verdict
