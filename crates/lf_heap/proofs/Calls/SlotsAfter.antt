-- How many slots a call leaves.
use Rattle.std.proofs.Common.{None, Option, Some, [], ap, arith, length, length-append, map, refl, ℕ, ◌+◌, ◌-◌, ◌∙◌, ◌∷◌, ◌≡◌, ◌≤◌}
use Rattle.std.proofs.lemmas.List.{length-map, length-take-le}
use Rattle.std.specs.Option.{option_or}
use Rattle.lf_base.specs.declared.faults.Fault.{Fault}
use Rattle.lf_base.specs.declared.ids.ObjId.{ObjId}
use Rattle.lf_base.specs.declared.values.Key.{Key}
use Rattle.lf_base.specs.declared.values.Value.{Value}
use Rattle.lf_base.specs.declared.values.Value.TheVariants as value
use Rattle.lf_base.specs.Accesses.{read_refusal, read_value, remove_refusal, remove_result, store_refusal, store_result}
use Rattle.lf_base.specs.CloseResult.{close_refusal, close_result, closed_slot}
use Rattle.lf_base.specs.DissolveResult.{dissolve_refusal, dissolve_result}
use Rattle.lf_base.specs.HeapCalls.{Done, close_change, dissolve_change, lift_change, load_change, making_refusal, merge_change, merged_by}
use Rattle.lf_base.specs.HeapCalls.{new_cown_change, new_object_change, new_region_change, on_bridge}
use Rattle.lf_base.specs.HeapCalls.{read_change, take_change, unless_refused, unset_change, unset_refusal, write_change}
use Rattle.lf_base.specs.Kept.{kept}
use Rattle.lf_base.specs.MergeResult.{merge_refusal}
use Rattle.lf_base.specs.Names.{key_of}
use Rattle.lf_base.specs.NewCown.{made_result, new_cown_refusal, next_cown}
use Rattle.lf_base.specs.Operands.{operand, set_value, slot_below, with_last, without_last}
use Rattle.lf_base.specs.Owners.{bridge_of}
use Rattle.lf_base.specs.PlainChanges.{next_object, object_result, region_result, slot_at, with_slot, with_slot_at}
use Rattle.lf_base.specs.PlainState.{State}
use Rattle.lf_heap.specs.Following.{closed_at}
use Rattle.lf_heap.proofs.Calls.OperandSlots.{put_down_length, slots_left}
use Rattle.lf_heap.proofs.Slots.SlotPlaces.{put_length}

-- what is done has the slots of what is left
slots_of : (r : Option Fault) (x t : State) → unless_refused r x ≡ Done t → t.slots ≡ x.slots
slots_of None x t e = by (kept x) t e where
  by : (u t : State) → Done u ≡ Done t → t.slots ≡ u.slots
  by u t e = cc
slots_of (Some f) x t e = absurd (cc)

one_more : (s : State) (w : Option Value) → length (with_slot s w).slots ≡ length s.slots + 1
one_more s w = length-append s.slots (w ∷ [])

fewer : (s : State) (n : ℕ) → n ≤ length s.slots → length (without_last n s).slots + n ≡ length s.slots
fewer s n h = omega (arith, length-take-le (length s.slots - n) s.slots (omega arith), h)

pub slots_pushed : (s : State) (w : Option Value) → length (with_slot s w).slots ≡ length s.slots + 1
slots_pushed = one_more

pub slots_popped : (s : State) → 1 ≤ length s.slots → length (without_last 1 s).slots + 1 ≡ length s.slots
slots_popped s h = fewer s 1 h

pub slots_put : (s : State) (at : ℕ) → 1 ≤ length s.slots → length (with_slot_at (without_last 1 s) at (slot_below s 0)).slots + 1 ≡ length s.slots
slots_put s at h = put_down_length s at (slot_below s 0) h

pub slots_loaded : (s t : State) (at : ℕ) → load_change at s ≡ Done t → length t.slots ≡ length s.slots + 1
slots_loaded s t at e = ap length (slots_of (unset_refusal (slot_at s.slots at)) (with_slot s (slot_at s.slots at)) t e) ∙ one_more s (slot_at s.slots at)

pub slots_lifted : (s t : State) (at : ℕ) → lift_change at s ≡ Done t → length t.slots ≡ length s.slots + 1
slots_lifted s t at e =
    let lifted : length t.slots ≡ length (with_slot (with_slot_at s at None) (slot_at s.slots at)).slots =
    ap length (slots_of (unset_refusal (slot_at s.slots at)) (with_slot (with_slot_at s at None) (slot_at s.slots at)) t e) in
    omega (arith, lifted, one_more (with_slot_at s at None) (slot_at s.slots at), put_length s.slots at None)

pub slots_unset : (s t : State) (at : ℕ) → unset_change at s ≡ Done t → length t.slots ≡ length s.slots
slots_unset s t at e = ap length (slots_of (unset_refusal (slot_at s.slots at)) (with_slot_at s at None) t e) ∙ put_length s.slots at None

pub slots_with_object : (s t : State) → new_object_change s ≡ Done t → length t.slots ≡ length s.slots + 1
slots_with_object s t e =
    ap length (slots_of (making_refusal s) (with_slot (object_result s) (Some (value.Obj (next_object s)))) t e) ∙ one_more (object_result s) (Some (value.Obj (next_object s)))

pub slots_with_region : (s t : State) → new_region_change s ≡ Done t → length t.slots ≡ length s.slots + 1
slots_with_region s t e =
    ap length (slots_of (making_refusal s) (with_slot (region_result s) (Some (value.Obj (next_object s)))) t e) ∙ one_more (region_result s) (Some (value.Obj (next_object s)))

pub slots_with_cown : (s t : State) → 1 ≤ length s.slots → new_cown_change s ≡ Done t → length t.slots ≡ length s.slots
slots_with_cown s t h e =
    let made = made_result s (operand s 0) in
    let w : Option Value = Some (value.Cown (next_cown s)) in
    let same : length t.slots ≡ length (with_last 1 w made).slots =
    ap length (slots_of (option_or (new_cown_refusal (without_last 1 s) (operand s 0)) (making_refusal s)) (with_last 1 w made) t e) in
    omega (arith, same, one_more (without_last 1 made) w, fewer made 1 h)

become : (s : State) (w : Option Value) → 2 ≤ length s.slots → length (with_last 2 w s).slots + 1 ≡ length s.slots
become s w h = omega (arith, one_more (without_last 2 s) w, fewer s 2 h)

pub slots_read : (s t : State) → 2 ≤ length s.slots → read_change s ≡ Done t → length t.slots + 1 ≡ length s.slots
slots_read s t h e =
    let v = read_value s (operand s 1) (key_of (operand s 0)) in
    let same : length t.slots ≡ length (with_last 2 v s).slots = ap length (slots_of (read_refusal s (operand s 1) (operand s 0)) (with_last 2 v s) t e) in
    omega (arith, same, become s v h)

pub slots_taken : (s t : State) → 2 ≤ length s.slots → take_change s ≡ Done t → length t.slots + 1 ≡ length s.slots
slots_taken s t h e =
    let v = read_value s (operand s 1) (key_of (operand s 0)) in
    let left = remove_result s (operand s 1) (key_of (operand s 0)) in
    let many : length left.slots ≡ length s.slots = ap length (slots_left s (operand s 1) (key_of (operand s 0))) in
    let same : length t.slots ≡ length (with_last 2 v left).slots = ap length (slots_of (remove_refusal s (operand s 1) (operand s 0)) (with_last 2 v left) t e) in
    omega (arith, same, many, become left v (omega (arith, many, h)))

slots_stored : (s : State) (target : Value) (k : Option Key) (v : Value) → (store_result s target k v).slots ≡ s.slots
slots_stored s (value.Obj o) (Some k) v = refl
slots_stored s (value.Cown c) (Some k) v = refl
slots_stored s _ _ v = refl

pub slots_written : (s t : State) → 3 ≤ length s.slots → write_change s ≡ Done t → length t.slots + 3 ≡ length s.slots
slots_written s t h e =
    let left = store_result s (operand s 2) (key_of (operand s 1)) (operand s 0) in
    let many : length left.slots ≡ length s.slots = ap length (slots_stored s (operand s 2) (key_of (operand s 1)) (operand s 0)) in
    let same : length t.slots ≡ length (without_last 3 left).slots = ap length (slots_of (store_refusal s (operand s 2) (operand s 1) (operand s 0)) (without_last 3 left) t e) in
    omega (arith, same, many, fewer left 3 (omega (arith, many, h)))

-- regions that change leave the slots
pub merged_slots : (a b : Option ObjId) (s : State) → (merged_by a b s).slots ≡ s.slots
merged_slots (Some a) (Some b) s = refl
merged_slots (Some a) None s = refl
merged_slots None b s = refl

pub slots_merged : (s t : State) → 2 ≤ length s.slots → merge_change s ≡ Done t → length t.slots + 1 ≡ length s.slots
slots_merged s t h e =
    let left = merged_by (bridge_of s (operand s 1)) (bridge_of s (operand s 0)) s in
    let many : length left.slots ≡ length s.slots = ap length (merged_slots (bridge_of s (operand s 1)) (bridge_of s (operand s 0)) s) in
    let same : length t.slots ≡ length (without_last 1 left).slots = ap length (slots_of (merge_refusal s (operand s 1) (operand s 0)) (without_last 1 left) t e) in
    omega (arith, same, many, fewer left 1 (omega (arith, many, h)))

pub dissolved_slots : (a : Option ObjId) (s : State) → (on_bridge a (dissolve_result s) s).slots ≡ s.slots
dissolved_slots (Some a) s = refl
dissolved_slots None s = refl

pub slots_dissolved : (s t : State) → dissolve_change s ≡ Done t → length t.slots ≡ length s.slots
slots_dissolved s t e =
    let left = on_bridge (bridge_of s (operand s 0)) (dissolve_result s) s in
    ap length (slots_of (dissolve_refusal s (operand s 0)) left t e) ∙ ap length (dissolved_slots (bridge_of s (operand s 0)) s)

-- a close leaves as many
pub closed_slots : (at : ℕ) (a : Option ObjId) (s : State) → length (on_bridge a (close_result s at) s).slots ≡ length s.slots
closed_slots at (Some r) s = put_length (map (closed_slot s r) s.slots) at (slot_at s.slots at) ∙ length-map s.slots (closed_slot s r)
closed_slots at None s = refl

pub slots_closed : (s t : State) (at : ℕ) → close_change at s ≡ Done t → length t.slots ≡ length s.slots
slots_closed s t at e = ap length (slots_of (close_refusal s at) (closed_at at s) t e) ∙ closed_slots at (bridge_of s (set_value (slot_at s.slots at))) s
