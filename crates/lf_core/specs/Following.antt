-- A core whose behaviours a lawful actor runs, beside the world in which those that are over ran one after the other.
use Rattle.std.specs.Prelude.{List, eqb, filter, not, ℕ}
use Rattle.lf_base.specs.declared.behaviours.Job.{Job}
use Rattle.lf_core.specs.Cores.{CoreState}
use Rattle.lf_core.specs.Events.{Kept, Run, at_once}
use Rattle.lf_core.specs.Keyed.{pick}
use Rattle.lf_core.specs.Reading.{Parked, reading}
use Rattle.lf_core.specs.World.{Outcome, Runs, World}

-- a running behaviour, with what the actor makes of its task
abbrev pub Going : Type 0
Going = Run (Outcome Parked)

-- the core with the behaviours that it gave out, and the world of Serial
abbrev pub Follows : Runs Parked → CoreState → List Going → World Parked → Type 0
Follows f core runs s = Kept (at_once f) reading f core.budget (record { core = core.world; runs = runs }) s

-- a behaviour that is started now
abbrev pub task_run : Runs Parked → World Parked → Job → Going
task_run f w job = record { job = job; frozen = w.frozen; state = f job (pick job.cowns w.parked) w.frozen }

abbrev pub without_run : ℕ → List Going → List Going
without_run id runs = filter (λ (run : Going). not (eqb id run.job.id)) runs
