-- What main left at its end is what its code makes of it, and what its tree means.
use Rattle.std.proofs.Common.{◌≡◌, ◌∙◌, ℕ, List, [], IfOk, Option, Result, ap, subst, sym}
use Rattle.lf_base.specs.declared.behaviours.Job.{Job}
use Rattle.lf_base.specs.declared.behaviours.Spawn.{Spawn}
use Rattle.lf_base.specs.declared.faults.FaultAt.{FaultAt}
use Rattle.lf_base.specs.declared.ids.CownId.{CownId}
use Rattle.lf_base.specs.declared.memory.OutOfMemory.{OutOfMemory}
use Rattle.lf_base.specs.Contents.{Parked, stored}
use Rattle.lf_base.specs.PlainChanges.{first_state}
use Rattle.lf_base.specs.PlainState.{Row, State}
use Rattle.lf_code.specs.CodeStep.{Config, IsOver, Over, Program, Running}
use Rattle.lf_code.specs.RunCode.{RunResult, config_result, run_code}
use Rattle.lf_code.specs.Ticked.{Ticked}
use Rattle.lf_codegen.specs.GeneratedCode.{program_of}
use Rattle.lf_codegen.specs.Numbers.{PlainScript}
use Rattle.lf_codegen.specs.RunOne.{MeansTree}
use Rattle.lf_machine.specs.Behaviours.{ComesFrom, ComesToEnd, EndsWith, started}
use Rattle.lf_app.specs.declared.commands.Command.TheVariants.{Run}
use Rattle.lf_app.specs.declared.outcomes.Outcome.{Outcome}
use Rattle.lf_app.specs.declared.run_text.Ran.{Ran}
use Rattle.lf_app.specs.Outcomes.{IsOutcomeOf}
use Rattle.lf_app.specs.Ran.{IsLeftBy}
use Rattle.lf_app.specs.Unbuilt.{first_unbuilt}
use Rattle.lf_app.specs.Verdicts.{Verdict, main_job, run_verdict, script_verdict}

left_by : (r : RunResult) (x : Config) (last : State) (lines : List (List ℕ)) (fault : Option FaultAt) (spawns : List Spawn) (ran : Ran)
    → config_result x ≡ r → EndsWith x last lines fault spawns → ran.lines ≡ lines → ran.fault ≡ fault → IsLeftBy r ran
left_by r (Running f fs c) last lines fault spawns ran is ends l k = absurd ends
left_by r (Over c end) last lines fault spawns ran is ends l k = record {
  lines_are = l ∙ ends.1 ∙ ap (λ (q : RunResult). q.lines) is;
  fault_is = k ∙ ends.2 ∙ ap (λ (q : RunResult). q.fault) is;
}

-- what a machine at its end left is what code makes of its job
abbrev pub EndsAsCode : Type 0
EndsAsCode = (p : Program) (ticks : ℕ) (job : Job) (contents : List (CownId × Parked)) (given : List Row) (x : Config) → Ticked p
    → ComesFrom p (started p ticks job (stored job.id contents given)) x → IsOver x → config_result x ≡ run_code p ticks job contents given

-- main, started on an empty heap and run to its end
pub main_left : (p : Program) (ticks : ℕ) (job : Job) (s : State) (begun x : Config) (last : State) (lines : List (List ℕ))
    (fault : Option FaultAt) (spawns : List Spawn) (ran : Ran) → EndsAsCode → Ticked p → job ≡ main_job → s ≡ first_state 0 []
    → begun ≡ started p ticks job s → ComesFrom p begun x → IsOver x → EndsWith x last lines fault spawns → ran.lines ≡ lines
    → ran.fault ≡ fault → IsLeftBy (run_code p ticks main_job [] []) ran
main_left p ticks job s begun x last lines fault spawns ran law ticked job_is state_is begun_is comes over ends l k =
    let at_start : begun ≡ started p ticks main_job (stored 0 [] []) = begun_is ∙ (λ i. started p ticks (job_is i) (state_is i)) in
    let from : ComesFrom p (started p ticks main_job (stored 0 [] [])) x = subst (λ (b : Config). ComesFrom p b x) at_start comes in
    left_by (run_code p ticks main_job [] []) x last lines fault spawns ran (law p ticks main_job [] [] x ticked from over) ends l k

-- main, started on an empty heap, comes to its end
pub main_ends : (p : Program) (ticks : ℕ) (job : Job) (s : State) (begun : Config)
    → ((q : Program) (n : ℕ) (j : Job) (t : State) → Ticked q → ComesToEnd q (started q n j t)) → Ticked p → job ≡ main_job
    → s ≡ first_state 0 [] → begun ≡ started p ticks job s → ComesToEnd p begun
main_ends p ticks job s begun law ticked job_is state_is begun_is =
    let at_start : begun ≡ started p ticks main_job (first_state 0 []) = begun_is ∙ (λ i. started p ticks (job_is i) (state_is i)) in
    subst (λ (b : Config). ComesToEnd p b) (sym at_start) (law p ticks main_job (first_state 0 []) ticked)

-- the verdict on a script by its code
verdict_is : (code : Program) (s : PlainScript) (ticks : ℕ) → code ≡ program_of s → MeansTree code s
    → run_verdict (first_unbuilt code) (run_code code ticks main_job [] []) ≡ script_verdict (Run ticks) s
verdict_is code s ticks is means =
    ap (λ (p : Program). run_verdict (first_unbuilt p) (run_code code ticks main_job [] [])) is
    ∙ ap (run_verdict (first_unbuilt (program_of s))) (means ticks main_job [] [])

pub outcome_is : (code : Program) (s : PlainScript) (ticks : ℕ) (r : Result Outcome OutOfMemory) → code ≡ program_of s → MeansTree code s
    → IfOk r (IsOutcomeOf (run_verdict (first_unbuilt code) (run_code code ticks main_job [] [])))
    → IfOk r (IsOutcomeOf (script_verdict (Run ticks) s))
outcome_is code s ticks r is means of = subst (λ (v : Verdict). IfOk r (IsOutcomeOf v)) (verdict_is code s ticks is means) of
