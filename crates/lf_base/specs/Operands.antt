-- The last slots of a state, on which an instruction works, and slots that come and go.
use Rattle.std.specs.Prelude.{None, Option, Some, length, suc, take, ℕ, ◌-◌}
use Rattle.lf_base.specs.declared.values.Value.{Value}
use Rattle.lf_base.specs.declared.values.Value.TheVariants as value
use Rattle.lf_base.specs.Kept.{kept}
use Rattle.lf_base.specs.PlainChanges.{slot_at, with_slot, with_slot_at, with_slots}
use Rattle.lf_base.specs.PlainState.{State}

-- the slot so many below the last one
abbrev pub slot_below : State → ℕ → Option Value
slot_below s down = slot_at s.slots (length s.slots - suc down)

-- the value of a slot that is set
abbrev pub set_value : Option Value → Value
set_value None = value.None
set_value (Some v) = v

-- the value of the operand so many below the last one
abbrev pub operand : State → ℕ → Value
operand s down = set_value (slot_below s down)

-- the last n slots go
abbrev pub without_last : ℕ → State → State
without_last n s = with_slots s (take (length s.slots - n) s.slots)

-- the last n slots go, and w comes
abbrev pub with_last : ℕ → Option Value → State → State
with_last n w s = with_slot (without_last n s) w

-- a slot more
abbrev pub pushed : Option Value → State → State
pushed w s = kept (with_slot s w)

-- the last slot goes
abbrev pub popped : State → State
popped s = kept (without_last 1 s)

-- the last slot goes to a place below it
abbrev pub put_down : ℕ → State → State
put_down at s = kept (with_slot_at (without_last 1 s) at (slot_below s 0))
