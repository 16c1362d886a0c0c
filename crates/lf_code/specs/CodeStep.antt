-- One instruction.
use Rattle.std.specs.Prelude.{List, None, Option, Some, [], length, map, slice_get, suc, zero, ℕ, ◌+◌, ◌-◌, ◌∷◌}
use Rattle.lf_base.specs.declared.faults.FaultAt.{FaultAt}
use Rattle.lf_base.specs.declared.faults.Fault.TheVariants.{Kind}
use Rattle.lf_base.specs.declared.limits.TheConstants.{MOST_FRAMES}
use Rattle.lf_base.specs.declared.values.Value.TheVariants as value
use Rattle.lf_base.specs.HeapCalls.{lift_change, load_change, new_object_change, read_change, take_change, unset_change, write_change}
use Rattle.lf_base.specs.Operands.{put_down}
use Rattle.lf_base.specs.Texts.{Text}
use Rattle.lf_code.specs.declared.body.Body.{Body}
use Rattle.lf_code.specs.declared.body.Placed.{Placed}
use Rattle.lf_code.specs.declared.instr.Instr.{Instr}
use Rattle.lf_code.specs.declared.instr.Instr.TheVariants as instr
use Rattle.lf_code.specs.Actions.{base_of, binary_change, enter, last_truth, leave, pop_value, push_value, test_truth, tick, no_frame_left}
use Rattle.lf_code.specs.Actions.{unary_change, without_operand}
use Rattle.lf_code.specs.Asks.{ask_change}
use Rattle.lf_code.specs.Progress.{Progress, Did, Fails, Flow, Next, Return, by_truth, does, on_state, to_state}
use Rattle.lf_code.specs.Prints.{built}
use Rattle.lf_code.specs.Spawning.{spawns_one}

-- a frame: its body, the address of its next instruction, and the place of its first slot
pub record Frame : Type 0 where
  pub body : ℕ
  pub at : ℕ
  pub base : ℕ

-- a behaviour on its way: its last frame, those below it, and the course; or it is over
pub data Config : Type 0 where
  Running : Frame → List Frame → Progress → Config
  Over : Progress → Option FaultAt → Config

-- the code of a script: its bodies and its texts
pub record Program : Type 0 where
  pub bodies : List Body
  pub texts : List Text

abbrev pub IsOver : Config → Type 0
IsOver (Running f fs c) = ⊥
IsOver (Over c fault) = Unit {0}

-- on to the frame below, or over
abbrev pub returned : List Frame → Progress → Config
returned [] c = Over c None
returned (f ∷ fs) c = Running f fs c

-- where a piece leads that goes on, returns, or fails
abbrev pub led : (Progress → Config) → (Progress → Config) → Flow → Config
led next back (Next c) = next c
led next back (Return c) = back c
led next back (Fails c at) = Over c (Some at)

-- the frame at another address
abbrev pub to_address : Frame → ℕ → Frame
to_address f at = record f { at = at }

-- how many frames more may stand above the last one, which stands above these
abbrev pub frames_left : List Frame → ℕ
frames_left fs = MOST_FRAMES - 1 - length fs

abbrev pub on_line : ℕ → Instr → Placed
on_line line i = record { line = line; instr = i }

-- the end of each body
abbrev pub body_end : List Placed
body_end = on_line 0 instr.None ∷ on_line 0 instr.Return ∷ []

-- a body that isn't there, which valid code never calls, has its end alone
abbrev pub list_of : Option Body → List Placed
list_of None = body_end
list_of (Some b) = b.list

abbrev pub vars_of : Option Body → ℕ
vars_of None = 0
vars_of (Some b) = b.vars

abbrev pub new_frame : ℕ → ℕ → Frame
new_frame body base = record { body = body; at = 0; base = base }

-- the last frame goes
abbrev pub return_to : Frame → List Frame → Progress → Config
return_to f fs c = returned fs (leave f.base c)

-- at an address of the last frame
abbrev pub at_address : Frame → List Frame → ℕ → Progress → Config
at_address f fs at c = Running (to_address f at) fs c

-- an action, and then the next instruction
abbrev pub acts : ℕ → (Progress → Did) → Frame → List Frame → Progress → Config
acts line action f fs c = led (at_address f fs (f.at + 1)) (return_to f fs) (does line action c)

-- what should be a truth value is none
abbrev pub no_truth : ℕ → Progress → Config
no_truth line c = Over c (Some (record { fault = Kind; line = line }))

module _ (p : Program) where
  -- the instructions of a body, and the number of its variables
  abbrev pub code_at : ℕ → List Placed
  code_at body = list_of (slice_get p.bodies body)

  abbrev pub vars_at : ℕ → ℕ
  vars_at body = vars_of (slice_get p.bodies body)

  -- a call, by the number of frames more that may stand
  abbrev pub call_by : ℕ → ℕ → ℕ → ℕ → Frame → List Frame → Progress → Config
  call_by zero line body count f fs c = led (at_address f fs (f.at + 1)) (return_to f fs) (does line no_frame_left c)
  call_by (suc n) line body count f fs c =
      led (Running (new_frame body (base_of count c)) (to_address f (f.at + 1) ∷ fs)) (return_to f fs)
      (does line (enter (vars_at body - count)) c)

  abbrev pub act : ℕ → Instr → Frame → List Frame → Progress → Config
  act line instr.Tick f fs c = acts line tick f fs c
  act line instr.None f fs c = acts line (push_value value.None) f fs c
  act line (instr.Bool b) f fs c = acts line (push_value (value.Bool b)) f fs c
  act line (instr.Int n) f fs c = acts line (push_value (value.Int n)) f fs c
  act line (instr.Text t) f fs c = acts line (push_value (value.Text t)) f fs c
  act line (instr.Get v) f fs c = acts line (on_state (load_change (f.base + v))) f fs c
  act line (instr.Take v) f fs c = acts line (on_state (lift_change (f.base + v))) f fs c
  act line (instr.Set v) f fs c = acts line (to_state (put_down (f.base + v))) f fs c
  act line (instr.Drop v) f fs c = acts line (on_state (unset_change (f.base + v))) f fs c
  act line instr.Object f fs c = acts line (on_state new_object_change) f fs c
  act line instr.Read f fs c = acts line (on_state read_change) f fs c
  act line instr.Write f fs c = acts line (on_state write_change) f fs c
  act line instr.Remove f fs c = acts line (on_state take_change) f fs c
  act line (instr.Unary op) f fs c = acts line (on_state (unary_change op)) f fs c
  act line (instr.Binary op) f fs c = acts line (on_state (binary_change op)) f fs c
  act line (instr.Jump a) f fs c = at_address f fs a c
  act line (instr.Unless a) f fs c =
      by_truth (last_truth c) c (no_truth line)
      (λ d. at_address f fs (f.at + 1) (without_operand d))
      (λ d. at_address f fs a (without_operand d))
  act line (instr.And a) f fs c =
      by_truth (last_truth c) c (no_truth line) (λ d. at_address f fs (f.at + 1) (without_operand d)) (at_address f fs a)
  act line (instr.Or a) f fs c =
      by_truth (last_truth c) c (no_truth line) (at_address f fs a) (λ d. at_address f fs (f.at + 1) (without_operand d))
  act line instr.Test f fs c = acts line test_truth f fs c
  act line (instr.Call body count) f fs c = call_by (frames_left fs) line body count f fs c
  act line instr.Return f fs c = return_to f fs c
  act line (instr.Built name count) f fs c = acts line (built p.texts name count) f fs c
  act line (instr.Ask name v) f fs c = acts line (on_state (ask_change name (f.base + v))) f fs c
  act line (instr.When body cowns captures) f fs c =
      acts line (spawns_one body (map (λ v. f.base + v) cowns) (map (λ v. f.base + v) captures)) f fs c
  act line instr.Pop f fs c = acts line pop_value f fs c

  -- an address without instruction ends it; valid code has none
  abbrev pub act_at : Option Placed → Frame → List Frame → Progress → Config
  act_at None f fs c = Over c None
  act_at (Some i) f fs c = act i.line i.instr f fs c

  -- one instruction; what is over stays so
  abbrev pub code_step : Config → Config
  code_step (Running f fs c) = act_at (slice_get (code_at f.body) f.at) f fs c
  code_step (Over c fault) = Over c fault
