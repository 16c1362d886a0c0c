-- What each call leaves of names and of cowns.
use Rattle.std.proofs.Common.{List, None, Option, Some, [], inl, inr, length, map, not, refl, subst, suc, ℕ, ◌++◌, ◌-◌, ◌∷◌, ◌≡◌}
use Rattle.std.specs.Prelude.{option_to_list, take}
use Rattle.std.proofs.lemmas.Option.{none-some}
use Rattle.lf_base.specs.declared.faults.Fault.{Fault}
use Rattle.lf_base.specs.declared.ids.CownId.{CownId}
use Rattle.lf_base.specs.declared.ids.ObjId.{ObjId}
use Rattle.lf_base.specs.declared.values.Key.{Key}
use Rattle.lf_base.specs.declared.values.Owner.{Owner}
use Rattle.lf_base.specs.declared.values.Owner.TheVariants.{In, Local}
use Rattle.lf_base.specs.declared.values.Value.{Value}
use Rattle.lf_base.specs.declared.values.Value.TheVariants as value
use Rattle.lf_base.specs.declared.values.Value.TheVariants.{Cown, Obj}
use Rattle.lf_base.specs.Accesses.{read_value, remove_result, store_result}
use Rattle.lf_base.specs.CloseResult.{close_result}
use Rattle.lf_base.specs.DissolveResult.{dissolve_result}
use Rattle.lf_base.specs.EndResult.{end_result, without_near}
use Rattle.lf_base.specs.FreezeResult.{freeze_result}
use Rattle.lf_base.specs.HeapCalls.{close_change, dissolve_change, frozen, lift_change, load_change, merge_change, merged_by, new_cown_change, new_object_change, new_region_change, on_bridge, read_change, take_change, unless_refused, unset_change, write_change}
use Rattle.lf_base.specs.Kept.{kept}
use Rattle.lf_base.specs.Names.{is_local, key_of}
use Rattle.lf_base.specs.NewCown.{made_result, next_cown}
use Rattle.lf_base.specs.Operands.{operand, popped, pushed, put_down, set_value, slot_below, with_last, without_last}
use Rattle.lf_base.specs.Owners.{bridge_of}
use Rattle.lf_base.specs.OwnNames.{AddsOwnNames, CallAddsOwnNames, KnowsCowns}
use Rattle.lf_base.specs.PlainChanges.{next_object, put_slot, slot_at, with_row, with_slot, with_slot_at, with_slots}
use Rattle.lf_base.specs.PlainState.{Row, State}
use Rattle.lf_base.specs.Sets.{Member}
use Rattle.lf_base.specs.WellFormed.{all_cowns, own_cowns}
use Rattle.lf_base.proofs.ListLemmas.Filters.{Member_of_filter}
use Rattle.lf_base.proofs.ListLemmas.Members.{Member_flat_map, Member_left, Member_map, Member_of_append, Member_right}
use Rattle.lf_laws.proofs.Changes.FewerFields.{at_member, put_member}
use Rattle.lf_laws.proofs.Changes.ReadValues.{read_is_value}
use Rattle.lf_laws.proofs.KeptStates.CallsSettle.{first_ones}
use Rattle.lf_laws.proofs.OwnNames.ChangesBring.{close_comes, content_comes, cown_comes, fewer_come, freeze_comes, here_comes, kept_comes, region_comes, row_comes, slots_come, take_comes, write_comes}
use Rattle.lf_laws.proofs.OwnNames.KnownCowns.{adds_own, adds_then, in_slots, old, names_no_cown}

kept_adds : (s t : State) → AddsOwnNames s t → AddsOwnNames s (kept t)
kept_adds s t a = adds_then s t (kept t) a (adds_own t (kept t) (kept_comes t))

call_adds : (s : State) (f : Option Fault) (t : State) → AddsOwnNames s t → CallAddsOwnNames s (unless_refused f t)
call_adds s None t a = kept_adds s t a
call_adds s (Some f) t a = tt

module _ (s : State) where
  knows : (v : Value) → Member (Some v) s.slots → KnowsCowns s v
  knows v m = in_slots s v (Member_flat_map option_to_list (Some v) v s.slots m (inl refl))

  knows_at : (at : ℕ) (v : Value) → slot_at s.slots at ≡ Some v → KnowsCowns s v
  knows_at at v e = knows v (at_member s.slots at v e)

  knows_set : (x : Option Value) → ((v : Value) → x ≡ Some v → KnowsCowns s v) → KnowsCowns s (set_value x)
  knows_set None h = names_no_cown s value.None refl
  knows_set (Some v) h = h v refl

  knows_operand : (down : ℕ) → KnowsCowns s (operand s down)
  knows_operand down = knows_set (slot_below s down) (knows_at (length s.slots - suc down))

  slots_add : (slots : List (Option Value)) → ((v : Value) → Member (Some v) slots → KnowsCowns s v) → AddsOwnNames s (with_slots s slots)
  slots_add slots h = adds_own s (with_slots s slots) (slots_come s slots h)

  and_one : (slots : List (Option Value)) (x : Option Value) → ((v : Value) → Member (Some v) slots → KnowsCowns s v) → ((v : Value) → x ≡ Some v → KnowsCowns s v)
      → (v : Value) → Member (Some v) (slots ++ x ∷ []) → KnowsCowns s v
  and_one slots x h one v m = elim (Member_of_append (Some v) slots (x ∷ []) m) [
    | inl n ↦ h v n
    | inr (inl e) ↦ one v e
    | inr (inr n) ↦ absurd n
  ]

  put_in : (slots : List (Option Value)) (at : ℕ) (x : Option Value) → ((v : Value) → Member (Some v) slots → KnowsCowns s v) → ((v : Value) → x ≡ Some v → KnowsCowns s v)
      → (v : Value) → Member (Some v) (put_slot slots at x) → KnowsCowns s v
  put_in slots at x h one v m = elim (put_member slots at x (Some v) m) [ inl n ↦ h v n | inr e ↦ one v e ]

  first_known : (n : ℕ) (v : Value) → Member (Some v) (take n s.slots) → KnowsCowns s v
  first_known n v m = knows v (first_ones n s.slots (Some v) m)

  fewer_adds : (n : ℕ) → AddsOwnNames s (without_last n s)
  fewer_adds n = slots_add (take (length s.slots - n) s.slots) (first_known (length s.slots - n))

  last_adds : (n : ℕ) (x : Option Value) → ((v : Value) → x ≡ Some v → KnowsCowns s v) → AddsOwnNames s (with_last n x s)
  last_adds n x one = slots_add _ (and_one (take (length s.slots - n) s.slots) x (first_known (length s.slots - n)) one)

  slot_adds : (x : Option Value) → ((v : Value) → x ≡ Some v → KnowsCowns s v) → AddsOwnNames s (with_slot s x)
  slot_adds x one = slots_add _ (and_one s.slots x knows one)

  none_put : (v : Value) → None ≡ Some v → KnowsCowns s v
  none_put v e = absurd (none-some v e)

  pub pushed_adds : (x : Option Value) → ((v : Value) → x ≡ Some v → KnowsCowns s v) → AddsOwnNames s (pushed x s)
  pushed_adds x one = kept_adds s (with_slot s x) (slot_adds x one)

  pub popped_adds : AddsOwnNames s (popped s)
  popped_adds = kept_adds s (without_last 1 s) (fewer_adds 1)

  pub put_down_adds : (at : ℕ) → AddsOwnNames s (put_down at s)
  put_down_adds at = kept_adds s (with_slot_at (without_last 1 s) at (slot_below s 0))
      (slots_add _ (put_in (take (length s.slots - 1) s.slots) at (slot_below s 0) (first_known (length s.slots - 1)) (knows_at (length s.slots - suc 0))))

  pub load_adds : (at : ℕ) → CallAddsOwnNames s (load_change at s)
  load_adds at = call_adds s _ (with_slot s (slot_at s.slots at)) (slot_adds (slot_at s.slots at) (knows_at at))

  pub lift_adds : (at : ℕ) → CallAddsOwnNames s (lift_change at s)
  lift_adds at = call_adds s _ (with_slot (with_slot_at s at None) (slot_at s.slots at)) (slots_add _ (and_one (put_slot s.slots at None) (slot_at s.slots at) (put_in s.slots at None knows none_put) (knows_at at)))

  pub unset_adds : (at : ℕ) → CallAddsOwnNames s (unset_change at s)
  unset_adds at = call_adds s _ (with_slot_at s at None) (slots_add _ (put_in s.slots at None knows none_put))

  store_adds : (target : Value) (k : Option Key) (v : Value) → KnowsCowns s v → AddsOwnNames s (store_result s target k v)
  store_adds (Obj o) (Some k) v h = adds_own s _ (write_comes s o k v h)
  store_adds (Cown c) (Some k) v h = adds_own s _ (content_comes s c v h)
  store_adds _ _ v h = adds_own s s (here_comes s)

  remove_adds : (target : Value) (k : Option Key) → AddsOwnNames s (remove_result s target k)
  remove_adds (Obj o) (Some k) = adds_own s _ (take_comes s o k)
  remove_adds (Cown c) (Some k) = adds_own s _ (content_comes s c value.None (names_no_cown s value.None refl))
  remove_adds _ _ = adds_own s s (here_comes s)

  merged_adds : (a b : Option ObjId) → AddsOwnNames s (merged_by a b s)
  merged_adds (Some a) (Some b) = adds_own s _ (region_comes s b (In a))
  merged_adds _ _ = adds_own s s (here_comes s)

  dissolved_adds : (a : Option ObjId) → AddsOwnNames s (on_bridge a (dissolve_result s) s)
  dissolved_adds (Some r) = adds_own s _ (region_comes s r Local)
  dissolved_adds None = adds_own s s (here_comes s)

  closed_adds : (at : ℕ) (a : Option ObjId) → AddsOwnNames s (on_bridge a (close_result s at) s)
  closed_adds at (Some r) = adds_own s _ (close_comes s at r)
  closed_adds at None = adds_own s s (here_comes s)

  read_known : (target : Value) (k : Option Key) (v : Value) → read_value s target k ≡ Some v → KnowsCowns s v
  read_known target k v e = old s v (read_is_value s target k v e)

row_adds : (s : State) (u : Owner) → AddsOwnNames s (with_slot (with_row s u) (Some (Obj (next_object s))))
row_adds s u = adds_then s (with_row s u) _ (adds_own s (with_row s u) (row_comes s u)) (slot_adds (with_row s u) (Some (Obj (next_object s))) (λ v e. subst (KnowsCowns (with_row s u)) (value_is e) (names_no_cown (with_row s u) (Obj (next_object s)) refl)))
  where
    value_is : {a b : Value} → Some a ≡ Some b → a ≡ b
    value_is e = cc

pub new_object_adds : (s : State) → CallAddsOwnNames s (new_object_change s)
new_object_adds s = call_adds s _ _ (row_adds s Local)

pub new_region_adds : (s : State) → CallAddsOwnNames s (new_region_change s)
new_region_adds s = call_adds s _ _ (row_adds s (In (next_object s)))

-- the new cown is among those made
new_cown_known : (s : State) (v : Value) → KnowsCowns (made_result s v) (Cown (next_cown s))
new_cown_known s v c (inr m) = absurd m
new_cown_known s v c (inl e) = subst (λ d. Member d (all_cowns (made_result s v))) e
    (Member_left (next_cown s) (own_cowns (made_result s v)) _ (Member_right (next_cown s) (map (λ (h : CownId × Value). h.0) s.held) _
    (Member_map (λ (h : CownId × Value). h.0) (next_cown s, v) (made_result s v).made (Member_right (next_cown s, v) s.made ((next_cown s, v) ∷ []) (inl refl)))))

pub new_cown_adds : (s : State) → CallAddsOwnNames s (new_cown_change s)
new_cown_adds s =
    let v : Value = operand s 0 in
    let t : State = made_result s v in
    call_adds s _ (with_last 1 (Some (Cown (next_cown s))) t) (adds_then s t _ (adds_own s t (cown_comes s v (knows_operand s 0)))
    (last_adds t 1 (Some (Cown (next_cown s))) (λ u e. subst (KnowsCowns t) (value_is e) (new_cown_known s v))))
  where
    value_is : {a b : Value} → Some a ≡ Some b → a ≡ b
    value_is e = cc

pub read_adds : (s : State) → CallAddsOwnNames s (read_change s)
read_adds s = call_adds s _ (with_last 2 (read_value s (operand s 1) (key_of (operand s 0))) s)
    (last_adds s 2 (read_value s (operand s 1) (key_of (operand s 0))) (read_known s (operand s 1) (key_of (operand s 0))))

pub write_adds : (s : State) → CallAddsOwnNames s (write_change s)
write_adds s =
    let t : State = store_result s (operand s 2) (key_of (operand s 1)) (operand s 0) in
    call_adds s _ (without_last 3 t) (adds_then s t _ (store_adds s (operand s 2) (key_of (operand s 1)) (operand s 0) (knows_operand s 0)) (fewer_adds t 3))

-- the value may stand on its slot before it is taken
taken_after : (s : State) (target : Value) (k : Option Key) (x : Option Value) → remove_result (with_last 2 x s) target k ≡ with_last 2 x (remove_result s target k)
taken_after s (Obj o) (Some k) x = refl
taken_after s (Cown c) (Some k) x = refl
taken_after s _ _ x = refl

pub take_adds : (s : State) → CallAddsOwnNames s (take_change s)
take_adds s =
    let target : Value = operand s 1 in
    let k : Option Key = key_of (operand s 0) in
    let x : Option Value = read_value s target k in
    call_adds s _ (with_last 2 x (remove_result s target k))
    (subst (AddsOwnNames s) (taken_after s target k x) (adds_then s (with_last 2 x s) _ (last_adds s 2 x (read_known s target k)) (remove_adds (with_last 2 x s) target k)))

pub frozen_adds : (s : State) → AddsOwnNames s (frozen s)
frozen_adds s = kept_adds s (freeze_result s (operand s 0)) (adds_own s _ (freeze_comes s (operand s 0)))

pub merge_adds : (s : State) → CallAddsOwnNames s (merge_change s)
merge_adds s =
    let t : State = merged_by (bridge_of s (operand s 1)) (bridge_of s (operand s 0)) s in
    call_adds s _ (without_last 1 t) (adds_then s t _ (merged_adds s (bridge_of s (operand s 1)) (bridge_of s (operand s 0))) (fewer_adds t 1))

pub dissolve_adds : (s : State) → CallAddsOwnNames s (dissolve_change s)
dissolve_adds s = call_adds s _ _ (dissolved_adds s (bridge_of s (operand s 0)))

pub close_adds : (s : State) (at : ℕ) → CallAddsOwnNames s (close_change at s)
close_adds s at = call_adds s _ _ (closed_adds s at (bridge_of s (set_value (slot_at s.slots at))))

pub end_adds : (s : State) → AddsOwnNames s (end_result s)
end_adds s =
    let bare : State = with_slots s [] in
    adds_then s bare (end_result s) (slots_add s [] (λ v m. absurd m))
    (kept_adds bare (without_near s) (adds_own bare (without_near s) (fewer_come bare (without_near s).rows (λ x m. (Member_of_filter (λ (r : Row). not (is_local r.owner)) x s.rows m).0))))
