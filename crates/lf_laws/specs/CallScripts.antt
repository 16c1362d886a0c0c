-- Scripts of calls on a state, for the worked rows. Variables and operands are slots, counted from 0.
use Rattle.std.specs.Prelude.{List, None, Option, Some, [], ℕ, ◌∷◌}
use Rattle.lf_base.specs.declared.faults.Fault.{Fault}
use Rattle.lf_base.specs.declared.questions.Question.{Question}
use Rattle.lf_base.specs.declared.values.Value.{Value}
use Rattle.lf_base.specs.Asking.{Asked, NotAnswered, asked}
use Rattle.lf_base.specs.HeapCalls.{Changed, Done, Refused, close_change, dissolve_change, frozen, lift_change, load_change}
use Rattle.lf_base.specs.HeapCalls.{merge_change, new_cown_change, new_object_change, new_region_change, read_change}
use Rattle.lf_base.specs.HeapCalls.{take_change, unset_change, write_change}
use Rattle.lf_base.specs.Operands.{popped, pushed, put_down}
use Rattle.lf_base.specs.PlainChanges.{first_state}
use Rattle.lf_base.specs.PlainState.{State}

-- one call
pub data Call : Type 0 where
  Push : Option Value → Call
  Pop : Call
  Load : ℕ → Call
  Lift : ℕ → Call
  Put : ℕ → Call
  Unset : ℕ → Call
  NewObject : Call
  NewRegion : Call
  NewCown : Call
  Read : Call
  Write : Call
  Take : Call
  Freeze : Call
  Merge : Call
  Dissolve : Call
  Close : ℕ → Call

-- what it makes of a state
abbrev pub change_of : Call → State → Changed
change_of (Push w) s = Done (pushed w s)
change_of Pop s = Done (popped s)
change_of (Load at) s = load_change at s
change_of (Lift at) s = lift_change at s
change_of (Put at) s = Done (put_down at s)
change_of (Unset at) s = unset_change at s
change_of NewObject s = new_object_change s
change_of NewRegion s = new_region_change s
change_of NewCown s = new_cown_change s
change_of Read s = read_change s
change_of Write s = write_change s
change_of Take s = take_change s
change_of Freeze s = Done (frozen s)
change_of Merge s = merge_change s
change_of Dissolve s = dissolve_change s
change_of (Close at) s = close_change at s

-- the calls one after the other, to the first that is refused
abbrev pub after_calls : List Call → Changed → Changed
after_calls calls (Refused f) = Refused f
after_calls [] (Done s) = Done s
after_calls (c ∷ calls) (Done s) = after_calls calls (change_of c s)

-- the calls on a state
abbrev pub run : State → List Call → Changed
run s calls = after_calls calls (Done s)

-- the first refusal, where there is one
abbrev pub refusal_of : Changed → Option Fault
refusal_of (Done s) = None
refusal_of (Refused f) = Some f

-- a question after some calls
abbrev pub ask_after : Changed → Question → ℕ → Asked
ask_after (Done s) q at = asked s q at
ask_after (Refused f) q at = NotAnswered f

-- the state after some calls, where none is refused
abbrev pub state_of : Changed → State
state_of (Done s) = s
state_of (Refused f) = first_state 0 []
