-- Each call on a well-formed state leaves a well-formed state of which all rows stay.
use Rattle.std.proofs.Common.{Bool, List, true, None, Option, Some, [], ap, arith, inl, inr, length, refl, subst, suc, zero, ℕ, ◌++◌, ◌+◌, ◌-◌, ◌||◌, ◌∷◌, ◌≡◌}
use Rattle.std.specs.Prelude.{take}
use Rattle.std.proofs.lemmas.Option.{none-some}
use Rattle.lf_base.specs.declared.faults.Fault.{Fault}
use Rattle.lf_base.specs.declared.ids.CownId.{CownId}
use Rattle.lf_base.specs.declared.ids.ObjId.{ObjId}
use Rattle.lf_base.specs.declared.values.Key.{Key}
use Rattle.lf_base.specs.declared.values.Owner.{Owner}
use Rattle.lf_base.specs.declared.values.Owner.TheVariants.{In, Local}
use Rattle.lf_base.specs.declared.values.Value.{Value}
use Rattle.lf_base.specs.declared.values.Value.TheVariants.{Cown, Obj}
use Rattle.lf_base.specs.Accesses.{read_value, remove_result, store_result}
use Rattle.lf_base.specs.CloseResult.{close_result}
use Rattle.lf_base.specs.ContentResult.{content_fault}
use Rattle.lf_base.specs.DissolveResult.{dissolve_refusal, dissolve_result}
use Rattle.lf_base.specs.FreezeResult.{freeze_result}
use Rattle.lf_base.specs.HeapCalls.{close_change, dissolve_change, frozen, lift_change, load_change, merge_change, merged_by, new_cown_change, new_object_change, new_region_change, on_bridge, read_change, take_change, unless_refused, unset_change, write_change}
use Rattle.lf_base.specs.Kept.{kept}
use Rattle.lf_base.specs.MergeResult.{merge_refusal}
use Rattle.lf_base.specs.Names.{key_of}
use Rattle.lf_base.specs.NewCown.{made_result, next_cown, or_open}
use Rattle.lf_base.specs.Operands.{operand, popped, pushed, put_down, set_value, slot_below, with_last, without_last}
use Rattle.lf_base.specs.Owners.{bridge_of, has_row, or_frozen, owner_in}
use Rattle.lf_base.specs.PlainChanges.{next_object, put_slot, slot_at, with_row, with_slot, with_slot_at, with_slots}
use Rattle.lf_base.specs.PlainState.{State}
use Rattle.lf_base.specs.SettledStates.{IsSettled, Settled}
use Rattle.lf_base.specs.Sets.{Member}
use Rattle.lf_base.specs.WellFormed.{IsNumber, SlotMayHold, WellFormed, from_near}
use Rattle.lf_base.proofs.ListLemmas.Members.{Member_of_append, Within}
use Rattle.lf_laws.proofs.Changes.ContentLaw.{made_law}
use Rattle.lf_laws.proofs.Changes.FewerFields.{at_member, close_keeps, put_member}
use Rattle.lf_laws.proofs.Changes.Freezing.{freeze_keeps}
use Rattle.lf_laws.proofs.Changes.FurtherSlot.{slot_held, slot_law}
use Rattle.lf_laws.proofs.Changes.Merging.{dissolve_values, merge_values}
use Rattle.lf_laws.proofs.Changes.NewRows.{NewOwner, new_row_keeps, owner_new}
use Rattle.lf_laws.proofs.Changes.ReadValues.{read_may_be_held}
use Rattle.lf_laws.proofs.Changes.SameOwners.{slots_keep, value_may_be_held}
use Rattle.lf_laws.proofs.Dropping.KeptState.{kept_again, well_formed_kept}
use Rattle.lf_laws.proofs.KeptStates.AccessesKeep.{held_after_remove, nothing_held, no_earlier, remove_keeps, store_keeps}

settles : (s : State) → WellFormed s → Settled (kept s)
settles s w = record { well_formed = well_formed_kept s w; all_stay = kept_again s w }

leaves : (f : Option Fault) (s : State) → (f ≡ None → WellFormed s) → IsSettled (unless_refused f s)
leaves None s h = settles s (h refl)
leaves (Some f) s h = tt

-- ---- slots
pub first_ones : (n : ℕ) (xs : List (Option Value)) → Within (take n xs) xs
first_ones zero xs x m = absurd m
first_ones (suc n) [] x m = absurd m
first_ones (suc n) (y ∷ ys) x (inl e) = inl e
first_ones (suc n) (y ∷ ys) x (inr m) = inr (first_ones n ys x m)

module _ (s : State) (w : WellFormed s) where
  holds : (v : Value) → Member (Some v) s.slots → SlotMayHold s v
  holds v m = value_may_be_held s v w (slot_held s v m)

  pub holds_at : (at : ℕ) (v : Value) → slot_at s.slots at ≡ Some v → SlotMayHold s v
  holds_at at v e = holds v (at_member s.slots at v e)

  holds_set : (x : Option Value) → ((v : Value) → x ≡ Some v → SlotMayHold s v) → SlotMayHold s (set_value x)
  holds_set None h = nothing_held s
  holds_set (Some v) h = h v refl

  pub holds_operand : (down : ℕ) → SlotMayHold s (operand s down)
  holds_operand down = holds_set (slot_below s down) (holds_at (length s.slots - suc down))

  -- other slots and one more
  and_one : (slots : List (Option Value)) (x : Option Value) → ((v : Value) → Member (Some v) slots → SlotMayHold s v) → ((v : Value) → x ≡ Some v → SlotMayHold s v) → WellFormed (with_slots s (slots ++ x ∷ []))
  and_one slots x h one = slots_keep s (slots ++ x ∷ []) w (λ v m. elim (Member_of_append (Some v) slots (x ∷ []) m) [
    | inl n ↦ h v n
    | inr (inl e) ↦ one v e
    | inr (inr n) ↦ absurd n
  ])

  first_held : (n : ℕ) (v : Value) → Member (Some v) (take n s.slots) → SlotMayHold s v
  first_held n v m = holds v (first_ones n s.slots (Some v) m)

  pub fewer : (n : ℕ) → WellFormed (without_last n s)
  fewer n = slots_keep s (take (length s.slots - n) s.slots) w (first_held (length s.slots - n))

  one_for : (n : ℕ) (x : Option Value) → ((v : Value) → x ≡ Some v → SlotMayHold s v) → WellFormed (with_last n x s)
  one_for n x one = and_one (take (length s.slots - n) s.slots) x (first_held (length s.slots - n)) one

  put_held : (slots : List (Option Value)) (at : ℕ) (x : Option Value) → ((v : Value) → Member (Some v) slots → SlotMayHold s v) → ((v : Value) → x ≡ Some v → SlotMayHold s v)
      → (v : Value) → Member (Some v) (put_slot slots at x) → SlotMayHold s v
  put_held slots at x h one v m = elim (put_member slots at x (Some v) m) [ inl n ↦ h v n | inr e ↦ one v e ]

  pub pushed_settles : (x : Option Value) → ((v : Value) → x ≡ Some v → SlotMayHold s v) → Settled (pushed x s)
  pushed_settles x one = settles (with_slot s x) (and_one s.slots x holds one)

  pub popped_settles : Settled (popped s)
  popped_settles = settles (without_last 1 s) (fewer 1)

  pub put_down_settles : (at : ℕ) → Settled (put_down at s)
  put_down_settles at =
      let slots : List (Option Value) = take (length s.slots - 1) s.slots in
      settles (with_slots s (put_slot slots at (slot_below s 0))) (slots_keep s (put_slot slots at (slot_below s 0)) w
      (put_held slots at (slot_below s 0) (first_held (length s.slots - 1)) (holds_at (length s.slots - suc 0))))

  pub load_settles : (at : ℕ) → IsSettled (load_change at s)
  load_settles at = leaves _ (with_slot s (slot_at s.slots at)) (λ e. and_one s.slots (slot_at s.slots at) holds (holds_at at))

  pub lift_settles : (at : ℕ) → IsSettled (lift_change at s)
  lift_settles at = leaves _ (with_slot (with_slot_at s at None) (slot_at s.slots at))
      (λ e. and_one (put_slot s.slots at None) (slot_at s.slots at) (put_held s.slots at None holds (λ v n. absurd (none-some v n))) (holds_at at))

  pub unset_settles : (at : ℕ) → IsSettled (unset_change at s)
  unset_settles at = leaves _ (with_slot_at s at None) (λ e. slots_keep s (put_slot s.slots at None) w (put_held s.slots at None holds (λ v n. absurd (none-some v n))))

  -- ---- makings
  new_row_whole : (u : Owner) → NewOwner s u → WellFormed (with_slot (with_row s u) (Some (Obj (next_object s))))
  new_row_whole u kind =
      let new : ObjId = next_object s in
      (slot_law (with_row s u) (Obj new) (new_row_keeps s u w kind)).0 (record {
        object_there = λ o m. elim m [
          | inl e ↦ subst (λ n. from_near (or_frozen (has_row s.given n || has_row s.own n) (owner_in (with_row s u).rows n)) ≡ true) e
              (ap (λ x. from_near (or_frozen (has_row s.given new || has_row s.own new) x)) (owner_new s u w kind))
          | inr n ↦ absurd n
        ];
        cown_numbered = λ c m. absurd m;
      })

  pub new_object_settles : IsSettled (new_object_change s)
  new_object_settles = leaves _ _ (λ e. new_row_whole Local (inl refl))

  pub new_region_settles : IsSettled (new_region_change s)
  new_region_settles = leaves _ _ (λ e. new_row_whole (In (next_object s)) (inr refl))

  or_open_first : (a : Option Fault) (b : Bool) → or_open a b ≡ None → a ≡ None
  or_open_first None b e = refl
  or_open_first (Some f) b e = e

  made_whole : content_fault (made_result (without_last 1 s) (operand s 0)) (operand s 0) ≡ None → WellFormed (with_last 1 (Some (Cown (next_cown s))) (made_result s (operand s 0)))
  made_whole e =
      let u : State = without_last 1 s in
      let v : Value = operand s 0 in
      let h = holds_operand 0 in
      let made : WellFormed (made_result u v) = (made_law u v (fewer 1) (record { object_there = h.object_there; cown_numbered = h.cown_numbered })).0 e in
      (slot_law (made_result u v) (Cown (next_cown s)) made).0 (record {
        object_there = λ o m. absurd m;
        cown_numbered = λ c m b. elim m [
          | inl k ↦ subst (λ (d : CownId). IsNumber d.seq (s.cowns + 1)) k (omega arith, omega arith)
          | inr n ↦ absurd n
        ];
      })

  pub new_cown_settles : IsSettled (new_cown_change s)
  new_cown_settles = leaves _ _ (λ e. made_whole (or_open_first _ _ (no_earlier _ _ e)))

  -- ---- fields and contents
  pub read_settles : IsSettled (read_change s)
  read_settles = leaves _ (with_last 2 (read_value s (operand s 1) (key_of (operand s 0))) s)
      (λ e. one_for 2 (read_value s (operand s 1) (key_of (operand s 0))) (λ v n. read_may_be_held s (operand s 1) (key_of (operand s 0)) v w n))

-- of the state that a call makes
pub write_settles : (s : State) → WellFormed s → IsSettled (write_change s)
write_settles s w =
    let t : State = store_result s (operand s 2) (key_of (operand s 1)) (operand s 0) in
    leaves _ (without_last 3 t) (λ e. fewer t (store_keeps s w (operand s 2) (operand s 1) (operand s 0) (holds_operand s w 0) e) 3)

pub take_settles : (s : State) → WellFormed s → IsSettled (take_change s)
take_settles s w =
    let target : Value = operand s 1 in
    let k : Option Key = key_of (operand s 0) in
    let t : State = remove_result s target k in
    leaves _ (with_last 2 (read_value s target k) t)
    (λ e. one_for t (remove_keeps s w target (operand s 0) e) 2 (read_value s target k) (λ v n. held_after_remove s w target k v (read_may_be_held s target k v w n)))

pub frozen_settles : (s : State) → WellFormed s → Settled (frozen s)
frozen_settles s w = settles (freeze_result s (operand s 0)) (freeze_keeps s (operand s 0) w)

merged_whole : (s : State) → WellFormed s → (v u : Value) (a b : Option ObjId) → bridge_of s v ≡ a → bridge_of s u ≡ b → merge_refusal s v u ≡ None → WellFormed (merged_by a b s)
merged_whole s w v u (Some a) (Some b) ha hb e = merge_values s v u a b w ha hb e
merged_whole s w v u _ _ ha hb e = w

pub merge_settles : (s : State) → WellFormed s → IsSettled (merge_change s)
merge_settles s w =
    let t : State = merged_by (bridge_of s (operand s 1)) (bridge_of s (operand s 0)) s in
    leaves _ (without_last 1 t) (λ e. fewer t (merged_whole s w (operand s 1) (operand s 0) (bridge_of s (operand s 1)) (bridge_of s (operand s 0)) refl refl e) 1)

dissolved_whole : (s : State) → WellFormed s → (v : Value) (a : Option ObjId) → bridge_of s v ≡ a → dissolve_refusal s v ≡ None → WellFormed (on_bridge a (dissolve_result s) s)
dissolved_whole s w v (Some r) h e = dissolve_values s v r w h e
dissolved_whole s w v None h e = w

pub dissolve_settles : (s : State) → WellFormed s → IsSettled (dissolve_change s)
dissolve_settles s w = leaves _ (on_bridge (bridge_of s (operand s 0)) (dissolve_result s) s) (dissolved_whole s w (operand s 0) (bridge_of s (operand s 0)) refl)

closed_whole : (s : State) → WellFormed s → (at : ℕ) (a : Option ObjId) → WellFormed (on_bridge a (close_result s at) s)
closed_whole s w at (Some r) = close_keeps s at r w
closed_whole s w at None = w

pub close_settles : (s : State) → WellFormed s → (at : ℕ) → IsSettled (close_change at s)
close_settles s w at = leaves _ (on_bridge (bridge_of s (set_value (slot_at s.slots at))) (close_result s at) s) (λ e. closed_whole s w at (bridge_of s (set_value (slot_at s.slots at))))
