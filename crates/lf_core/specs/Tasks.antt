-- What is handed to an actor, and what an actor hands in, as contracts see them.
use Rattle.std.specs.Prelude.{◌≡◌, List, map}
use Rattle.lf_base.specs.declared.behaviours.Job.{Job}
use Rattle.lf_base.specs.declared.ids.CownId.{CownId}
use Rattle.lf_base.specs.declared.values.Value.{Value}
use Rattle.lf_base.specs.PlainState.{Row}
use Rattle.lf_base.specs.Sets.{Member}
use Rattle.lf_core.specs.declared.actor.Outcome as code
use Rattle.lf_frozen.specs.FrozenRows.{as_row}
use Rattle.lf_core.specs.Keyed.{pick}
use Rattle.lf_core.specs.Lawful.{Reached}
use Rattle.lf_core.specs.Reading.{Parked, seen}
use Rattle.lf_core.specs.World.{Outcome, Runs, World, ready_jobs}

-- what was handed in
abbrev pub outcome_of : {C : Type 0} → (C → Value) → (C → List Row) → code.Outcome C → Outcome Parked
outcome_of content rows o = record { held = seen content rows o.held; made = seen content rows o.made; rows = map as_row o.rows; lines = o.lines; fault = o.fault; spawns = o.spawns }

-- a task with which a behaviour can be started in Serial of f
pub record IsTask (f : Runs Parked) (j : Job) (cs : List (CownId × Parked)) (rows : List Row) : Type 0 where
  pub world : World Parked
  pub reached : Reached f world
  pub ready : Member j (ready_jobs world)
  pub contents : cs ≡ pick j.cowns world.parked
  pub frozen : rows ≡ world.frozen
