-- What the instructions that work in several parts would leave if dropping came once, behind all of their parts.
use Rattle.std.specs.Prelude.{None, Some, [], replicate, take, ℕ, ◌++◌, ◌≡◌, ◌∷◌}
use Rattle.lf_base.specs.declared.values.Value.{Value}
use Rattle.lf_base.specs.declared.values.Value.TheVariants as value
use Rattle.lf_base.specs.CloseResult.{close_refusal, close_result}
use Rattle.lf_base.specs.HeapCalls.{Changed, Done, Refused, on_bridge, unless_refused}
use Rattle.lf_base.specs.Kept.{kept}
use Rattle.lf_base.specs.Names.{cowns_of_value, targets_of_value}
use Rattle.lf_base.specs.Operands.{set_value, slot_below, with_last}
use Rattle.lf_base.specs.Owners.{bridge_of}
use Rattle.lf_base.specs.PlainChanges.{slot_at, with_slot, with_slots}
use Rattle.lf_base.specs.PlainState.{State}
use Rattle.lf_code.specs.Operators.{Computed, Faults, Yields}

-- a value that refers to no object and no cown
abbrev pub IsPlain : Value → Type 0
IsPlain v = (targets_of_value v ≡ []) × (cowns_of_value v ≡ [])

abbrev pub YieldsPlain : Computed → Type 0
YieldsPlain (Yields v) = IsPlain v
YieldsPlain (Faults fault) = Unit {0}

-- a value in the place of the last operands
abbrev pub replaced_once : ℕ → State → Computed → Changed
replaced_once n s (Yields v) = Done (kept (with_last n (Some v) s))
replaced_once n s (Faults fault) = Refused fault

-- further variables, all unset
abbrev pub entered_once : ℕ → State → State
entered_once n s = kept (with_slots s (s.slots ++ replicate n None))

-- of a frame's slots the last one alone
abbrev pub left_once : ℕ → State → State
left_once base s = kept (with_slots s (take base s.slots ++ slot_below s 0 ∷ []))

-- a region is closed, and None is pushed
abbrev pub closed_once : ℕ → State → Changed
closed_once at s =
    unless_refused (close_refusal s at)
    (with_slot (on_bridge (bridge_of s (set_value (slot_at s.slots at))) (close_result s at) s) (Some value.None))
