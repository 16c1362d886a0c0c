-- Who may start, over the lists of waiting and running jobs.
use Rattle.std.specs.Prelude.{Bool, List, Option, eqb, filter, find, ltb, map, not, ℕ, ◌&&◌}
use Rattle.std.specs.List.{list_any}
use Rattle.lf_base.specs.declared.behaviours.Job.{Job}
use Rattle.lf_base.specs.declared.ids.CownId.{CownId}
use Rattle.lf_base.specs.Names.{same_cown}

-- a running job: its number, and the cowns that it holds
pub record Holder : Type 0 where
  pub id : ℕ
  pub cowns : List CownId

-- a cown is in the list
abbrev pub among : List CownId → CownId → Bool
among cs c = list_any (λ d. same_cown d c) cs

-- two lists of cowns have one in common
abbrev pub meets : List CownId → List CownId → Bool
meets cs ds = list_any (λ c. among ds c) cs

-- a running job holds a cown of this one
abbrev pub is_held : List Holder → Job → Bool
is_held running job = list_any (λ holder. meets holder.cowns job.cowns) running

-- a waiting job of lower number names a cown of this one
abbrev pub is_behind : List Job → Job → Bool
is_behind waiting job = list_any (λ other. ltb other.id job.id && meets other.cowns job.cowns) waiting

-- none of its cowns is held by a running job or named by a waiting one of lower number
abbrev pub is_ready : List Job → List Holder → Job → Bool
is_ready waiting running job = not (is_held running job) && not (is_behind waiting job)

-- the waiting jobs that are ready, by rising number
abbrev pub ready_jobs : List Job → List Holder → List Job
ready_jobs waiting running = filter (is_ready waiting running) waiting

-- their numbers
abbrev pub ready_ids : List Job → List Holder → List ℕ
ready_ids waiting running = map (λ job. job.id) (ready_jobs waiting running)

-- the job of that number
abbrev pub job_of : List Job → ℕ → Option Job
job_of jobs id = find (λ job. eqb job.id id) jobs

-- the ready job of that number
abbrev pub ready_job : List Job → List Holder → ℕ → Option Job
ready_job waiting running id = job_of (ready_jobs waiting running) id
