-- No action gives ticks back.
use Rattle.std.proofs.Common.{◌≡◌, ℕ, zero, suc, ◌<◌, ◌≤◌, Bool, true, false, List, Option, Some, None, refl, arith, cond}
use Rattle.lf_base.specs.declared.behaviours.Spawn.{Spawn}
use Rattle.lf_base.specs.declared.faults.Fault.{Fault}
use Rattle.lf_base.specs.declared.faults.Fault.TheVariants.{OutputFull}
use Rattle.lf_base.specs.PlainState.{State}
use Rattle.lf_code.specs.declared.instr.BuiltName.{BuiltName}
use Rattle.lf_code.specs.declared.instr.BuiltName.TheVariants as built_name
use Rattle.lf_code.specs.Progress.{Progress, Does, Faulted, Flow, Next, Return, Fails, flow_of, does, did_change, on_state, to_state}
use Rattle.lf_base.specs.HeapCalls.{Changed, Done, Refused, dissolve_change, merge_change, new_cown_change, new_region_change}
use Rattle.lf_base.specs.HeapCalls.{frozen}
use Rattle.lf_code.specs.Actions.{enter_by, last_truth, test_by, test_truth, tick, tick_by, no_frame_left_by}
use Rattle.lf_code.specs.Prints.{built}
use Rattle.lf_code.specs.Spawning.{spawn_by}

-- where it goes on, or returns, there are at most t ticks left
abbrev pub TicksWithin : ℕ → Flow → Type 0
TicksWithin t (Next c) = c.ticks ≤ t
TicksWithin t (Return c) = c.ticks ≤ t
TicksWithin t (Fails c at) = Unit {0}

-- where it goes on, there are fewer than t
abbrev pub TicksBelow : ℕ → Flow → Type 0
TicksBelow t (Next c) = c.ticks < t
TicksBelow t (Return c) = Unit {0}
TicksBelow t (Fails c at) = Unit {0}

pub by_change : (line : ℕ) (c : Progress) (x : Changed) → TicksWithin c.ticks (flow_of line c (did_change c x))
by_change line c (Done s) = omega arith
by_change line c (Refused fault) = tt

pub on_state_within : (line : ℕ) (f : State → Changed) (c : Progress) → TicksWithin c.ticks (does line (on_state f) c)
on_state_within line f c = by_change line c (f c.state)

pub to_state_within : (line : ℕ) (f : State → State) (c : Progress) → TicksWithin c.ticks (does line (to_state f) c)
to_state_within line f c = omega arith

pub tick_by_below : (line n : ℕ) (c : Progress) → n ≡ c.ticks → TicksBelow c.ticks (flow_of line c (tick_by n c))
tick_by_below line zero c e = tt
tick_by_below line (suc n) c e = omega (arith, e)

pub tick_below : (line : ℕ) (c : Progress) → TicksBelow c.ticks (does line tick c)
tick_below line c = tick_by_below line c.ticks c refl

pub tick_by_within : (line n : ℕ) (c : Progress) → n ≡ c.ticks → TicksWithin c.ticks (flow_of line c (tick_by n c))
tick_by_within line zero c e = tt
tick_by_within line (suc n) c e = omega (arith, e)

pub tick_within : (line : ℕ) (c : Progress) → TicksWithin c.ticks (does line tick c)
tick_within line c = tick_by_within line c.ticks c refl

pub enter_by_within : (line n further : ℕ) (c : Progress) → n ≡ c.ticks → TicksWithin c.ticks (flow_of line c (enter_by n further c))
enter_by_within line zero further c e = tt
enter_by_within line (suc n) further c e = omega (arith, e)

pub no_frame_left_by_within : (line n : ℕ) (c : Progress) → TicksWithin c.ticks (flow_of line c (no_frame_left_by n c))
no_frame_left_by_within line zero c = tt
no_frame_left_by_within line (suc n) c = tt

pub test_by_within : (line : ℕ) (w : Option Bool) (c : Progress) → TicksWithin c.ticks (flow_of line c (test_by w c))
test_by_within line None c = tt
test_by_within line (Some b) c = omega arith

pub test_within : (line : ℕ) (c : Progress) → TicksWithin c.ticks (does line test_truth c)
test_within line c = test_by_within line (last_truth c) c

pub line_within : (b : Bool) (line : ℕ) (c : Progress) (s : State) (ls : List (List ℕ))
    → TicksWithin c.ticks (flow_of line c (cond b (Does (record c { state = s; lines = ls })) (Faulted OutputFull)))
line_within true line c s ls = omega arith
line_within false line c s ls = tt

pub spawn_within : (w : Option Fault) (line : ℕ) (c : Progress) (x : Spawn) → TicksWithin c.ticks (flow_of line c (spawn_by w c x))
spawn_within (Some fault) line c x = tt
spawn_within None line c x = omega arith

pub built_within : (texts : List (List ℕ)) (name : BuiltName) (n line : ℕ) (c : Progress)
    → TicksWithin c.ticks (does line (built texts name n) c)
built_within texts built_name.Print n line c = line_within _ line c _ _
built_within texts built_name.Region n line c = on_state_within line new_region_change c
built_within texts built_name.Cown n line c = on_state_within line new_cown_change c
built_within texts built_name.Freeze n line c = to_state_within line frozen c
built_within texts built_name.Merge n line c = on_state_within line merge_change c
built_within texts built_name.Dissolve n line c = on_state_within line dissolve_change c
