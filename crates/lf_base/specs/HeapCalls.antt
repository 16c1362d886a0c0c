-- What each call on a behaviour's state makes of it, operands included: the state that it leaves, of which all rows stay,
-- or the fault that it is refused for, which changes nothing.
use Rattle.std.specs.Prelude.{Err, None, Ok, Option, Some, cond, ltb, ℕ, ◌+◌, ◌≡◌}
use Rattle.std.specs.declared.result.Result.{Result}
use Rattle.std.specs.Option.{option_or}
use Rattle.lf_base.specs.declared.faults.Fault.{Fault}
use Rattle.lf_base.specs.declared.faults.Fault.TheVariants.{TooManyObjects, Unset}
use Rattle.lf_base.specs.declared.faults.HeapFail.{HeapFail}
use Rattle.lf_base.specs.declared.faults.HeapFail.TheVariants as fail
use Rattle.lf_base.specs.declared.ids.ObjId.{ObjId}
use Rattle.lf_base.specs.declared.limits.TheConstants.{MOST_MADE}
use Rattle.lf_base.specs.declared.values.Value.{Value}
use Rattle.lf_base.specs.declared.values.Value.TheVariants.{Cown, Obj}
use Rattle.lf_base.specs.Accesses.{read_refusal, read_value, remove_refusal, remove_result, store_refusal, store_result}
use Rattle.lf_base.specs.CloseResult.{close_refusal, close_result}
use Rattle.lf_base.specs.DissolveResult.{dissolve_refusal, dissolve_result}
use Rattle.lf_base.specs.FreezeResult.{freeze_result}
use Rattle.lf_base.specs.Kept.{kept}
use Rattle.lf_base.specs.MergeResult.{merge_refusal, merge_result}
use Rattle.lf_base.specs.Names.{key_of}
use Rattle.lf_base.specs.NewCown.{made_result, new_cown_refusal, next_cown}
use Rattle.lf_base.specs.Operands.{operand, set_value, with_last, without_last}
use Rattle.lf_base.specs.Owners.{bridge_of}
use Rattle.lf_base.specs.PlainChanges.{next_object, object_result, region_result, slot_at, with_slot, with_slot_at}
use Rattle.lf_base.specs.PlainState.{State}

-- what comes of a call that the rules may refuse
pub data Changed : Type 0 where
  Done : State → Changed
  Refused : Fault → Changed

-- what such a call answers, with the state before and after it
abbrev pub Gives : Changed → Result (Unit {0}) Fault → State → State → Type 0
Gives change (Ok _) old new = change ≡ Done new
Gives change (Err f) old new = (change ≡ Refused f) × (new ≡ old)

-- the same of a call that takes memory, for want of which nothing changes either
abbrev pub GivesOrWants : Changed → Result (Unit {0}) HeapFail → State → State → Type 0
GivesOrWants change (Ok _) old new = change ≡ Done new
GivesOrWants change (Err (fail.Fault f)) old new = (change ≡ Refused f) × (new ≡ old)
GivesOrWants change (Err fail.OutOfMemory) old new = new ≡ old

-- the state, of which the rows that stay are left, or else the refusal
abbrev pub unless_refused : Option Fault → State → Changed
unless_refused None s = Done (kept s)
unless_refused (Some f) s = Refused f

-- ---- slots

-- a slot must be set
abbrev pub unset_refusal : Option Value → Option Fault
unset_refusal None = Some Unset
unset_refusal (Some v) = None

-- a copy of a slot is pushed
abbrev pub load_change : ℕ → State → Changed
load_change at s = unless_refused (unset_refusal (slot_at s.slots at)) (with_slot s (slot_at s.slots at))

-- a slot is pushed, and unset in its place
abbrev pub lift_change : ℕ → State → Changed
lift_change at s = unless_refused (unset_refusal (slot_at s.slots at)) (with_slot (with_slot_at s at None) (slot_at s.slots at))

-- a slot is unset
abbrev pub unset_change : ℕ → State → Changed
unset_change at s = unless_refused (unset_refusal (slot_at s.slots at)) (with_slot_at s at None)

-- ---- making

-- one object or cown more is refused
abbrev pub making_refusal : State → Option Fault
making_refusal s = cond (ltb (s.objects + s.cowns) MOST_MADE) None (Some TooManyObjects)

-- a new local object is pushed
abbrev pub new_object_change : State → Changed
new_object_change s = unless_refused (making_refusal s) (with_slot (object_result s) (Some (Obj (next_object s))))

-- the bridge of a new region is pushed
abbrev pub new_region_change : State → Changed
new_region_change s = unless_refused (making_refusal s) (with_slot (region_result s) (Some (Obj (next_object s))))

-- the last slot becomes a new cown with its value as content; the region of that value is judged without the slot
abbrev pub new_cown_change : State → Changed
new_cown_change s =
    unless_refused (option_or (new_cown_refusal (without_last 1 s) (operand s 0)) (making_refusal s))
    (with_last 1 (Some (Cown (next_cown s))) (made_result s (operand s 0)))

-- ---- fields and contents

-- target and key become the value
abbrev pub read_change : State → Changed
read_change s =
    unless_refused (read_refusal s (operand s 1) (operand s 0))
    (with_last 2 (read_value s (operand s 1) (key_of (operand s 0))) s)

-- target, key and value go, and the value stands at the key
abbrev pub write_change : State → Changed
write_change s =
    unless_refused (store_refusal s (operand s 2) (operand s 1) (operand s 0))
    (without_last 3 (store_result s (operand s 2) (key_of (operand s 1)) (operand s 0)))

-- target and key become the value, which is taken from there
abbrev pub take_change : State → Changed
take_change s =
    unless_refused (remove_refusal s (operand s 1) (operand s 0))
    (with_last 2 (read_value s (operand s 1) (key_of (operand s 0))) (remove_result s (operand s 1) (key_of (operand s 0))))

-- ---- regions

-- what the last slot reaches is frozen
abbrev pub frozen : State → State
frozen s = kept (freeze_result s (operand s 0))

-- the regions of two bridges as one, where both are there
abbrev pub merged_by : Option ObjId → Option ObjId → State → State
merged_by (Some a) (Some b) s = merge_result s a b
merged_by _ _ s = s

-- the last region goes into the one below it, whose operand is left
abbrev pub merge_change : State → Changed
merge_change s =
    unless_refused (merge_refusal s (operand s 1) (operand s 0))
    (without_last 1 (merged_by (bridge_of s (operand s 1)) (bridge_of s (operand s 0)) s))

-- what is done with a bridge, where there is one
abbrev pub on_bridge : Option ObjId → (ObjId → State) → State → State
on_bridge (Some r) f s = f r
on_bridge None f s = s

-- the region of the last slot is dissolved
abbrev pub dissolve_change : State → Changed
dissolve_change s = unless_refused (dissolve_refusal s (operand s 0)) (on_bridge (bridge_of s (operand s 0)) (dissolve_result s) s)

-- the region of a variable is closed against all other slots and the local rows
abbrev pub close_change : ℕ → State → Changed
close_change at s =
    unless_refused (close_refusal s at) (on_bridge (bridge_of s (set_value (slot_at s.slots at))) (close_result s at) s)
