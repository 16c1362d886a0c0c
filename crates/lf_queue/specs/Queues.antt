-- A queue as contracts see it, and what its calls make of it.
use Rattle.std.specs.Prelude.{Bool, List, eqb, filter, length, ltb, not, ℕ, [], ◌++◌, ◌-◌, ◌<◌, ◌∷◌, if◌then◌else◌, max}
use Rattle.std.specs.List.{list_any}
use Rattle.lf_base.specs.declared.behaviours.Job.{Job}
use Rattle.lf_base.specs.Sets.{Member}
use Rattle.lf_queue.specs.Ready.{Holder}

-- the waiting and the running jobs, both by rising number, and for how many jobs and cowns there is room
pub record QueueState : Type 0 where
  pub waiting : List Job
  pub running : List Holder
  pub job_room : ℕ
  pub cown_room : ℕ

abbrev pub no_jobs : QueueState
no_jobs = record { waiting = []; running = []; job_room = 0; cown_room = 0 }

-- the number is above those of all jobs
abbrev pub IsAboveAll : ℕ → QueueState → Type 0
IsAboveAll id queue = ((job : Job) → Member job queue.waiting → job.id < id) × ((holder : Holder) → Member holder queue.running → holder.id < id)

-- a running job of that number is there
abbrev pub is_running : List Holder → ℕ → Bool
is_running running id = list_any (λ holder. eqb holder.id id) running

-- the running jobs without the one of that number
abbrev pub without_holder : List Holder → ℕ → List Holder
without_holder running id = filter (λ holder. not (eqb holder.id id)) running

-- the waiting jobs without the one of that number
abbrev pub without_job : List Job → ℕ → List Job
without_job waiting id = filter (λ job. not (eqb job.id id)) waiting

-- the running jobs with a further one, ahead of the first of greater number
abbrev pub with_holder : Holder → List Holder → List Holder
with_holder holder [] = holder ∷ []
with_holder holder (first ∷ running) = if ltb holder.id first.id then holder ∷ first ∷ running else first ∷ with_holder holder running

abbrev pub holder_of : Job → Holder
holder_of job = record { id = job.id; cowns = job.cowns }

-- a job is added to those that wait
abbrev pub spawned : Job → QueueState → QueueState
spawned job queue = record {
  waiting = queue.waiting ++ job ∷ [];
  running = queue.running;
  job_room = queue.job_room - 1;
  cown_room = queue.cown_room - length job.cowns;
}

-- a waiting job runs
abbrev pub started : Job → QueueState → QueueState
started job queue = record queue { waiting = without_job queue.waiting job.id; running = with_holder (holder_of job) queue.running }

-- a running job is over
abbrev pub ended : ℕ → QueueState → QueueState
ended id queue = record queue { running = without_holder queue.running id }

-- there is room for so many jobs and cowns
abbrev pub with_room : ℕ → ℕ → QueueState → QueueState
with_room jobs cowns queue = record queue { job_room = max queue.job_room jobs; cown_room = max queue.cown_room cowns }
