-- A core follows Serial as its behaviours start and as a lawful actor's outcomes are committed.
use Rattle.std.proofs.Common.{Bool, List, Some, [], ap, arith, cond, false, length, ltb, map, refl, subst, sym, true, ℕ, ◌∙◌, ◌<◌, ◌≤◌, ◌∷◌, ◌≡◌}
use Rattle.std.specs.List.{slice_get}
use Rattle.std.proofs.lemmas.Bool.{ltb-true}
use Rattle.lf_base.specs.declared.behaviours.Job.{Job}
use Rattle.lf_base.specs.Owners.{has_row, names}
use Rattle.lf_base.specs.Sets.{Member}
use Rattle.lf_core.specs.declared.journal.Entry.{Entry}
use Rattle.lf_core.specs.Cores.{CoreState, MayEnd, new_core, startable, with_ended, with_started}
use Rattle.lf_core.specs.Events.{at_once}
use Rattle.lf_core.specs.Following.{Follows, Going, task_run, without_run}
use Rattle.lf_core.specs.Keyed.{pick}
use Rattle.lf_core.specs.Lawful.{Keeps, Lawful, left_by}
use Rattle.lf_core.specs.Reading.{Parked, all_names_in, reading}
use Rattle.lf_core.specs.World.{IsLegalFrom, Runs, World, done, first, order_of, ready_job, ready_jobs, serial}
use Rattle.lf_core.proofs.Events.{at_once_computes, free_ready, good, job_of_Mem, keep_end, keep_start, kept_first, outcome_is, serial_is}
use Rattle.lf_core.proofs.Good.{differ_tail, look_rows, not_frozen}
use Rattle.lf_core.proofs.Tracks.{holder_runs}
use Rattle.lf_queue.proofs.ReadyLaws.{may_start}
use Rattle.lf_queue.specs.Ready.{ready_ids}

module _ (f : Runs Parked) (law : Lawful reading f) where
  pub follows_new : (budget : ℕ) → Follows f (new_core budget) [] first
  follows_new budget = kept_first reading f law (at_once f) (at_once_computes f) budget

  pub follows_started : (core : CoreState) (runs : List Going) (s : World Parked) (id : ℕ) (job : Job) → Follows f core runs s → ready_job core.world id ≡ Some job → core.world.started < core.budget
      → Follows f (with_started job core) (task_run f core.world job ∷ runs) s
  follows_started core runs s id job k e below = keep_start reading f law (at_once f) (at_once_computes f) core.budget (record { core = core.world; runs = runs }) s k job (job_of_Mem (ready_jobs core.world) id job e).0 below

  pub follows_ended : (core : CoreState) (runs : List Going) (s : World Parked) (run : Going) → Follows f core runs s → Member run runs
      → Follows f (with_ended run.job.id run.state core) (without_run run.job.id runs) (done f s run.job)
  follows_ended core runs s run k m = keep_end reading f law (at_once f) (at_once_computes f) core.budget (record { core = core.world; runs = runs }) s k run m refl

  -- what the actor makes of a running one's task may be committed
  pub may_end : (core : CoreState) (runs : List Going) (s : World Parked) (run : Going) → Follows f core runs s → Member run runs → MayEnd core.world run.job.id run.state
  may_end core runs s run k m =
      let g = good reading f law s k.reached in
      let free = (k.runs run m).free in
      let is : run.state ≡ f run.job (pick run.job.cowns s.parked) s.frozen = outcome_is reading f law (at_once f) (at_once_computes f) core.budget s k.reached run (k.runs run m) refl in
      let kp : Keeps reading f run.job (pick run.job.cowns s.parked) s.frozen = (law s run.job k.reached (free_ready s run.job g.numbered.idle free)).keeps in
      subst (MayEnd core.world run.job.id) (sym is) (record {
        runs = holder_runs core.world.running run.job (k.held run m);
        few_spawns = kp.few_spawns;
        spawn_cowns = kp.spawn_cowns;
        row_names = differ_tail (all_names_in reading (left_by reading (f run.job (pick run.job.cowns s.parked) s.frozen))) (names (f run.job (pick run.job.cowns s.parked) s.frozen).rows) kp.names_differ;
        new_rows = λ o e. ap (λ rows. has_row rows o) k.tracks.frozen ∙ not_frozen reading f s run.job g free.0 kp o (look_rows reading f s run.job g free.0 kp o e);
      })

  -- the world beside it is that of its journal run singly
  pub is_serial : (core : CoreState) (runs : List Going) (s : World Parked) → Follows f core runs s → (s ≡ serial f (order_of core.world)) × (IsLegalFrom f first (order_of core.world) × (length core.world.journal ≤ core.budget))
  is_serial core runs s k =
      let z = serial_is f (λ t h. (good reading f law t h).numbered) s k.reached in
      let same : order_of core.world ≡ order_of s = ap (map (λ (e : Entry). e.id)) k.tracks.journal in
      let count = k.tracks.count in
      let within = k.within in
      (sym z.0 ∙ ap (serial f) (sym same), (subst (IsLegalFrom f first) (sym same) z.1, omega arith))

-- a number that is found may be started
pub may_take : (core : CoreState) (at id : ℕ) → slice_get (startable core) at ≡ Some id → (job : Job) × ((ready_job core.world id ≡ Some job) × (core.world.started < core.budget))
may_take core at id e = go (ltb core.world.started core.budget) refl e
  where
    go : (b : Bool) → ltb core.world.started core.budget ≡ b → slice_get (cond b (ready_ids core.world.waiting core.world.running) []) at ≡ Some id → (job : Job) × ((ready_job core.world id ≡ Some job) × (core.world.started < core.budget))
    go true l h = let r = may_start core.world.waiting core.world.running at id h in (r.0, (r.1, ltb-true core.world.started core.budget l))
    go false l h = absurd (cc)
