-- Closing a region.
use Rattle.std.specs.Prelude.{Bool, None, Option, Some, cond, map, ℕ, ◌∷◌}
use Rattle.std.specs.List.{list_any}
use Rattle.std.specs.Prelude.{is_some}
use Rattle.lf_base.specs.declared.faults.Fault.{Fault}
use Rattle.lf_base.specs.declared.faults.Fault.TheVariants.{NotBridge, Unset}
use Rattle.lf_base.specs.declared.ids.ObjId.{ObjId}
use Rattle.lf_base.specs.declared.values.Value.{Value}
use Rattle.lf_base.specs.Names.{is_local, targets_of_value}
use Rattle.lf_base.specs.Owners.{bridge_of, is_in, owner_in}
use Rattle.lf_base.specs.Ownership.{below}
use Rattle.lf_base.specs.PlainChanges.{put_slot, slot_at}
use Rattle.lf_base.specs.PlainState.{Row, State}
use Rattle.lf_base.specs.declared.values.Value.TheVariants as value

-- the value names a row of region r or of a region below it
abbrev pub leads_into : State → ObjId → Value → Bool
leads_into s r v = list_any (λ o. list_any (λ q. is_in q (owner_in s.rows o)) (r ∷ below s r)) (targets_of_value v)

-- such a value becomes the plain value None
abbrev pub closed_value : State → ObjId → Value → Value
closed_value s r v = cond (leads_into s r v) value.None v

-- such a slot holds None then, and an unset one stays unset
abbrev pub closed_slot : State → ObjId → Option Value → Option Value
closed_slot s r None = None
closed_slot s r (Some v) = Some (closed_value s r v)

-- such fields of a local row hold None then, and other rows stay
abbrev pub closed_fields : State → ObjId → Row → Row
closed_fields s r row = cond (is_local row.owner) (record row { fields = map (λ f. (f.0, closed_value s r f.1)) row.fields }) row

-- every slot but the one at the place, and every field of a local row, is closed against region r
abbrev pub close_result : State → ℕ → ObjId → State
close_result s at r = record s {
  slots = put_slot (map (closed_slot s r) s.slots) at (slot_at s.slots at);
  rows = map (closed_fields s r) s.rows;
}

-- by the slot: it must be set, and hold a bridge
abbrev pub close_refusal_by : State → Option Value → Option Fault
close_refusal_by s None = Some Unset
close_refusal_by s (Some v) = cond (is_some (bridge_of s v)) None (Some NotBridge)

-- what close of the variable at that place is refused for
abbrev pub close_refusal : State → ℕ → Option Fault
close_refusal s at = close_refusal_by s (slot_at s.slots at)
