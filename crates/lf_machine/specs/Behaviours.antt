-- How a behaviour starts, goes on and ends, as a machine shows it.
use Rattle.std.specs.Prelude.{List, Option, [], length, ℕ, ◌*◌, ◌+◌, ◌≡◌}
use Rattle.lf_base.specs.declared.behaviours.Job.{Job}
use Rattle.lf_base.specs.declared.behaviours.Spawn.{Spawn}
use Rattle.lf_base.specs.declared.faults.FaultAt.{FaultAt}
use Rattle.lf_base.specs.declared.values.Value.{Value}
use Rattle.lf_base.specs.PlainChanges.{with_slots}
use Rattle.lf_base.specs.PlainState.{State}
use Rattle.lf_base.specs.Sets.{Member}
use Rattle.lf_base.specs.WellFormed.{SlotMayHold}
use Rattle.lf_code.specs.CodeStep.{Config, IsOver, Over, Program, Running, new_frame, vars_at}
use Rattle.lf_code.specs.RunCode.{first_slots, longest, steps}
use Rattle.lf_machine.specs.declared.running.Stepped.{Stepped}
use Rattle.lf_machine.specs.declared.running.Stepped.TheVariants as stepped

-- slots may hold all of these values
abbrev pub MayHoldAll : State → List Value → Type 0
MayHoldAll s values = (v : Value) → Member v values → SlotMayHold s v

-- a job at its start on a state without slots, with its code and within a budget of ticks
abbrev pub started : Program → ℕ → Job → State → Config
started p ticks job s =
    Running (new_frame job.body 0) []
    (record { state = with_slots s (first_slots job.values (vars_at p job.body)); ticks = ticks; lines = []; spawns = [] })

-- what a step answers
abbrev pub shows : Config → Stepped
shows (Running f fs c) = stepped.Going
shows (Over c fault) = stepped.Over

-- one configuration comes from another by some steps
abbrev pub ComesFrom : Program → Config → Config → Type 0
ComesFrom p x y = (n : ℕ) × (steps p n x ≡ y)

-- a behaviour is over, and these are its state, its lines, its fault and its spawns
abbrev pub EndsWith : Config → State → List (List ℕ) → Option FaultAt → List Spawn → Type 0
EndsWith (Running f fs c) s lines fault spawns = ⊥
EndsWith (Over c end) s lines fault spawns = (s ≡ c.state) × (lines ≡ c.lines) × (fault ≡ end) × (spawns ≡ c.spawns)

abbrev pub IsGoing : Config → Type 0
IsGoing (Running f fs c) = Unit {0}
IsGoing (Over c fault) = ⊥

-- the most steps that ticked code takes from there on: its ticks and its frames bound them, and its longest body
abbrev pub most_left : Program → Config → ℕ
most_left p (Running f fs c) = (2 * c.ticks + length fs + 2) * (longest p.bodies + 4)
most_left p (Over c fault) = 0

-- so many steps lead to the end
abbrev pub ComesToEnd : Program → Config → Type 0
ComesToEnd p x = IsOver (steps p (most_left p x) x)
