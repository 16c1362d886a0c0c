-- A core as contracts see it, and what its calls make of it.
use Rattle.std.specs.Prelude.{Bool, List, [], cond, eqb, filter, length, ltb, not, ◌++◌, ◌∷◌, ◌≡◌, ◌≤◌, ◌<◌, ◌+◌, ◌*◌, true, false, ℕ}
use Rattle.std.specs.List.{list_any}
use Rattle.lf_base.specs.declared.behaviours.Job.{Job}
use Rattle.lf_base.specs.declared.behaviours.Spawn.{Spawn}
use Rattle.lf_base.specs.declared.limits.TheConstants.{MOST_SPAWNS}
use Rattle.lf_base.specs.declared.ids.ObjId.{ObjId}
use Rattle.lf_base.specs.Names.{same_cown, same_name}
use Rattle.lf_base.specs.Owners.{has_row, names}
use Rattle.lf_base.specs.Sets.{Differ, Member}
use Rattle.lf_core.specs.declared.journal.Entry.{Entry}
use Rattle.lf_base.specs.declared.limits.TheConstants.{MOST_BEHAVIOURS}
use Rattle.lf_core.specs.Orders.{Rises}
use Rattle.lf_core.specs.Reading.{Parked}
use Rattle.lf_core.specs.Tracks.{Apart}
use Rattle.lf_core.specs.World.{Outcome, World, committed, first, taken}
use Rattle.lf_queue.specs.Queues.{is_running}
use Rattle.lf_queue.specs.Ready.{Holder, ready_ids}

-- a world, the numbers of its running behaviours that were abandoned, and how many may start
pub record CoreState : Type 0 where
  -- a behaviour that was abandoned still stands among the running ones, and its cowns are held
  pub world : World Parked
  pub abandoned : List ℕ
  pub budget : ℕ

abbrev pub new_core : ℕ → CoreState
new_core budget = record { world = first; abandoned = []; budget = budget }

-- the ready numbers by rising number; none once the budget is reached
abbrev pub startable : CoreState → List ℕ
startable core = cond (ltb core.world.started core.budget) (ready_ids core.world.waiting core.world.running) []

abbrev pub is_abandoned : CoreState → ℕ → Bool
is_abandoned core id = list_any (λ n. eqb n id) core.abandoned

-- the behaviours that run
abbrev pub going : CoreState → List Holder
going core = filter (λ h. not (is_abandoned core h.id)) core.world.running

abbrev pub with_started : Job → CoreState → CoreState
with_started job core = record core { world = taken core.world job }

abbrev pub with_ended : ℕ → Outcome Parked → CoreState → CoreState
with_ended id done core = record core { world = committed core.world id done }

abbrev pub with_abandoned : ℕ → CoreState → CoreState
with_abandoned id core = record core { abandoned = core.abandoned ++ id ∷ [] }

abbrev pub entry_id : Entry → ℕ
entry_id e = e.id

-- how many cowns a spawn names
abbrev pub cowns_of : Spawn → ℕ
cowns_of s = length s.cowns

-- a running behaviour may end so
pub record MayEnd {C : Type 0} (w : World C) (id : ℕ) (done : Outcome C) : Type 0 where
  pub runs : is_running w.running id ≡ true
  pub few_spawns : length done.spawns ≤ MOST_SPAWNS
  pub spawn_cowns : (spawn : Spawn) → Member spawn done.spawns → Differ same_cown spawn.cowns
  pub row_names : Differ same_name (names done.rows)
  pub new_rows : (o : ObjId) → has_row done.rows o ≡ true → has_row w.frozen o ≡ false

-- what a core keeps of its world, with room for so many abandoned ones
pub record KeepsCore (core : CoreState) (room : ℕ) : Type 0 where
  -- numbers are below the next one, and differ
  pub waiting_below : (j : Job) → Member j core.world.waiting → j.id < core.world.next
  pub running_below : (h : Holder) → Member h core.world.running → h.id < core.world.next
  pub rises : Rises core.world.waiting
  pub apart : Apart core.world.running
  pub fresh : (j : Job) → Member j core.world.waiting → is_running core.world.running j.id ≡ false
  -- each waiting one's cowns differ
  pub cowns_differ : (j : Job) → Member j core.world.waiting → Differ same_cown j.cowns
  -- counts
  pub waiting_count : length core.world.waiting + core.world.started ≡ core.world.next
  pub running_count : length core.world.journal + length core.world.running ≡ core.world.started
  pub within : core.world.started ≤ core.budget
  pub most : core.budget ≤ MOST_BEHAVIOURS
  pub small : core.world.next ≤ 1 + MOST_SPAWNS * length core.world.journal
  pub room_left : length core.world.running ≤ room
  -- the abandoned ones are running ones, each once
  pub abandoned_run : (id : ℕ) → Member id core.abandoned → is_running core.world.running id ≡ true
  pub abandoned_differ : Differ eqb core.abandoned
