-- Behaviours that were started run until they end.
use Rattle.std.proofs.Common.{Some, ap, eqb, false, refl, sym, true, ℕ, ◌||◌, ◌∙◌, ◌≡◌}
use Rattle.std.proofs.lemmas.Bool.{eq-eqb}
use Rattle.lf_base.specs.declared.behaviours.Job.{Job}
use Rattle.lf_core.specs.Cores.{CoreState, with_ended, with_started}
use Rattle.lf_core.specs.Reading.{Parked}
use Rattle.lf_core.specs.World.{Outcome, ready_job, ready_jobs}
use Rattle.lf_core.proofs.Events.{job_of_Mem}
use Rattle.lf_core.proofs.Holders.{Member_runs, any_with, in_left, runs_Member}
use Rattle.lf_core.proofs.Tests.{no_both, or_right}
use Rattle.lf_queue.specs.Queues.{holder_of, is_running, without_holder}
use Rattle.lf_queue.specs.Ready.{Holder}

-- a behaviour of that number runs
abbrev pub Runs : ℕ → CoreState → Type 0
Runs id core = is_running core.world.running id ≡ true

-- what was started runs
pub runs_job : (core : CoreState) (job : Job) → Runs job.id (with_started job core)
runs_job core job = any_with (λ (h : Holder). eqb h.id job.id) (holder_of job) core.world.running ∙ ap (λ b. b || is_running core.world.running job.id) (eq-eqb job.id job.id refl)

pub runs_now : (core : CoreState) (id : ℕ) (job : Job) → ready_job core.world id ≡ Some job → Runs id (with_started job core)
runs_now core id job e =
    any_with (λ (h : Holder). eqb h.id id) (holder_of job) core.world.running
    ∙ ap (λ b. b || is_running core.world.running id) (eq-eqb job.id id (job_of_Mem (ready_jobs core.world) id job e).1)

-- and what ran before it runs on
pub runs_on : (core : CoreState) (job : Job) (id : ℕ) → Runs id core → Runs id (with_started job core)
runs_on core job id r = any_with (λ (h : Holder). eqb h.id id) (holder_of job) core.world.running ∙ or_right (eqb job.id id) (is_running core.world.running id) r

-- another one ends
pub runs_after : (core : CoreState) (done : Outcome Parked) (id other : ℕ) → Runs other core → (id ≡ other → ⊥) → Runs other (with_ended id done core)
runs_after core done id other r differ =
    let h = runs_Member core.world.running other r in
    Member_runs (without_holder core.world.running id) h.0 other (in_left core.world.running id h.0 h.1.0 (λ e. differ (e ∙ h.1.1))) h.1.1

-- what didn't run is another one
pub apart : (core : CoreState) (id other : ℕ) → Runs id core → is_running core.world.running other ≡ false → id ≡ other → ⊥
apart core id other r n e = no_both _ (ap (is_running core.world.running) (sym e) ∙ r) n
