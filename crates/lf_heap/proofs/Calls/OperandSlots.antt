-- Operands that go, and their values.
use Rattle.std.proofs.Common.{List, None, Option, Some, [], ap, arith, inl, inr, length, refl, subst, suc, sym, take, zero, ℕ, ◌++◌, ◌+◌, ◌-◌, ◌<◌, ◌∙◌, ◌∷◌, ◌≡◌, ◌≤◌}
use Rattle.std.proofs.lemmas.List.{length-take-le, take-take, take_all}
use Rattle.std.specs.Option.{option_or}
use Rattle.lf_base.specs.declared.ids.CownId.{CownId}
use Rattle.lf_base.specs.declared.ids.ObjId.{ObjId}
use Rattle.lf_base.specs.declared.values.Value.{Value}
use Rattle.lf_base.specs.declared.values.Value.TheVariants as value
use Rattle.lf_base.specs.declared.values.Key.{Key}
use Rattle.lf_base.specs.Accesses.{read_refusal, read_value, remove_refusal, remove_result}
use Rattle.lf_base.specs.Edges.{Slot, edges_by, slot_targets}
use Rattle.lf_base.specs.HeapCalls.{Done, making_refusal, new_cown_change, read_change, take_change}
use Rattle.lf_base.specs.Kept.{kept}
use Rattle.lf_base.specs.Names.{key_of}
use Rattle.lf_base.specs.NewCown.{made_result, new_cown_refusal, next_cown}
use Rattle.lf_base.specs.Noticing.{InSlot}
use Rattle.lf_base.specs.Operands.{operand, set_value, slot_below, with_last, without_last}
use Rattle.lf_base.specs.PlainChanges.{put_slot, with_slot_at, with_slots}
use Rattle.lf_base.specs.PlainState.{State}
use Rattle.lf_base.specs.Sets.{Member}
use Rattle.lf_base.specs.WellFormed.{IsNumber, SlotMayHold, WellFormed}
use Rattle.lf_base.proofs.ListLemmas.Members.{Member_flat_map}
use Rattle.lf_heap.proofs.Calls.Rests.{done}
use Rattle.lf_heap.proofs.Slots.SlotLosses.{held_value}
use Rattle.lf_heap.proofs.Slots.SlotPlaces.{put_length, slot_member}

-- ---- slots that go one after the other
pub one_less : (s : State) (n : ℕ) → n + 1 ≤ length s.slots → without_last 1 (without_last n s) ≡ without_last (n + 1) s
one_less s n h =
    let long : length (take (length s.slots - n) s.slots) - 1 ≡ length s.slots - (n + 1) = omega (arith, length-take-le (length s.slots - n) s.slots (omega arith), h) in
    ap (with_slots s) (ap (λ k. take k (take (length s.slots - n) s.slots)) long ∙ take-take (length s.slots - (n + 1)) (length s.slots - n) s.slots (omega (arith, h)))

pub three_less : (s : State) → 3 ≤ length s.slots → without_last 1 (without_last 1 (without_last 1 s)) ≡ without_last 3 s
three_less s h = ap (without_last 1) (one_less s 1 (omega (arith, h))) ∙ one_less s 2 h

-- ---- the last one put down
pub put_down_length : (s : State) (n : ℕ) (w : Option Value) → 1 ≤ length s.slots → length (with_slot_at (without_last 1 s) n w).slots + 1 ≡ length s.slots
put_down_length s n w h = omega (arith, put_length (take (length s.slots - 1) s.slots) n w, length-take-le (length s.slots - 1) s.slots (omega arith), h)

-- ---- two operands become a value
put_before_last : (xs : List (Option Value)) (n : ℕ) (w : Option Value) → n < length xs → take (suc n) (put_slot xs n w) ≡ take n xs ++ w ∷ []
put_before_last [] n w h = absurd (omega (arith, h))
put_before_last (x ∷ xs) zero w h = refl
put_before_last (x ∷ xs) (suc n) w h = ap (λ l. x ∷ l) (put_before_last xs n w (omega (arith, h)))

pub two_become : (s : State) (w : Option Value) → 2 ≤ length s.slots → without_last 1 (with_slot_at s (length s.slots - 2) w) ≡ with_last 2 w s
two_become s w h =
    let n : ℕ = length s.slots - 2 in
    let long : length (put_slot s.slots n w) - 1 ≡ suc n = omega (arith, put_length s.slots n w, h) in
    ap (with_slots s) (ap (λ k. take k (put_slot s.slots n w)) long ∙ put_before_last s.slots n w (omega (arith, h)))

-- ---- an operand becomes another value
pub one_becomes : (s : State) (n : ℕ) (w : Option Value) → n + 1 ≡ length s.slots → with_slot_at s n w ≡ with_last 1 w s
one_becomes s n w at =
    let place : n ≡ length s.slots - 1 = omega (arith, at) in
    let whole : length (put_slot s.slots n w) ≤ suc n = omega (arith, put_length s.slots n w, at) in
    ap (with_slots s) (sym (take_all (suc n) (put_slot s.slots n w) whole) ∙ put_before_last s.slots n w (omega (arith, at)) ∙ ap (λ k. take k s.slots ++ w ∷ []) place)

pub cown_done : (s t u : State) (v : Value) (c : CownId) (n : ℕ) → v ≡ operand s 0 → None ≡ option_or (new_cown_refusal (without_last 1 s) v) (making_refusal s) → c ≡ next_cown s
    → t ≡ made_result s v → n + 1 ≡ length s.slots → u ≡ kept (with_slot_at t n (Some (value.Cown c))) → new_cown_change s ≡ Done u
cown_done s t u v c n is allowed name made at end =
    done (option_or (new_cown_refusal (without_last 1 s) (operand s 0)) (making_refusal s)) (with_last 1 (Some (value.Cown (next_cown s))) (made_result s (operand s 0))) u
    (sym (allowed ∙ ap (λ x. option_or (new_cown_refusal (without_last 1 s) x) (making_refusal s)) is))
    (end ∙ ap (λ x. kept (with_slot_at x n (Some (value.Cown c)))) (made ∙ ap (made_result s) is)
    ∙ ap kept (one_becomes (made_result s (operand s 0)) n (Some (value.Cown c)) at ∙ ap (λ x. with_last 1 (Some (value.Cown x)) (made_result s (operand s 0))) name))

-- a cown that was made may be held by a slot
pub made_may_be_held : (s : State) (v : Value) → SlotMayHold (made_result s v) (value.Cown (next_cown s))
made_may_be_held s v = record {
  object_there = λ o m. absurd m;
  cown_numbered = λ c m e. elim m [
    | inl same ↦ subst (λ (x : CownId). IsNumber x.seq (s.cowns + 1)) same (omega arith, omega arith)
    | inr n ↦ absurd n
  ];
}

-- ---- the value of an operand
module _ (s : State) (well : WellFormed s) where
  plain_none : SlotMayHold s value.None
  plain_none = record { object_there = λ o m. absurd m; cown_numbered = λ c m. absurd m }

  set_may_be_held : (w : Option Value) → ((v : Value) → w ≡ Some v → Member (Some v) s.slots) → SlotMayHold s (set_value w)
  set_may_be_held None h = plain_none
  set_may_be_held (Some v) h = held_value s well v (h v refl)

  pub operand_may_be_held : (down : ℕ) → SlotMayHold s (operand s down)
  operand_may_be_held down = set_may_be_held (slot_below s down) (λ v e. slot_member s.slots (length s.slots - suc down) v e)

set_object : (w : Option Value) (o : ObjId) → set_value w ≡ value.Obj o → w ≡ Some (value.Obj o)
set_object None o e = absurd (cc)
set_object (Some v) o e = ap Some e

-- an operand that is an object is named by its slot
pub operand_in_slot : (s : State) (down : ℕ) (o : ObjId) → operand s down ≡ value.Obj o → InSlot s o
operand_in_slot s down o e =
    let w : slot_below s down ≡ Some (value.Obj o) = set_object (slot_below s down) o e in
    Member_flat_map (λ (slot : Option Value). edges_by Slot (slot_targets slot)) (Some (value.Obj o)) (record { from = Slot; to = o }) s.slots (slot_member s.slots (length s.slots - suc down) (value.Obj o) w) (inl refl)

-- ---- reads and takes
pub one_less_length : (s : State) → 1 ≤ length s.slots → length (without_last 1 s).slots + 1 ≡ length s.slots
one_less_length s h = omega (arith, length-take-le (length s.slots - 1) s.slots (omega arith), h)

-- the value in the place of the two operands
pub became : (s t u : State) (n : ℕ) (w : Option Value) → t ≡ with_slot_at s n w → n + 2 ≡ length s.slots → u ≡ without_last 1 t → u ≡ with_last 2 w s
became s t u n w put at last =
    last ∙ ap (without_last 1) put ∙ ap (λ k. without_last 1 (with_slot_at s k w)) (place n at) ∙ two_become s w (omega (arith, at)) where
      place : (n : ℕ) → n + 2 ≡ length s.slots → n ≡ length s.slots - 2
      place n e = omega (arith, e)

pub read_done : (s u : State) (target key v : Value) → target ≡ operand s 1 → key ≡ operand s 0 → None ≡ read_refusal s target key → read_value s target (key_of key) ≡ Some v
    → u ≡ kept (with_last 2 (Some v) s) → read_change s ≡ Done u
read_done s u target key v at by allowed value end =
    done (read_refusal s (operand s 1) (operand s 0)) (with_last 2 (read_value s (operand s 1) (key_of (operand s 0))) s) u
    (sym (allowed ∙ ap (λ t. read_refusal s t key) at ∙ ap (read_refusal s (operand s 1)) by))
    (end ∙ ap (λ w. kept (with_last 2 w s)) (sym value ∙ ap (λ t. read_value s t (key_of key)) at ∙ ap (λ k. read_value s (operand s 1) (key_of k)) by))

pub take_done : (s t u : State) (target key v : Value) → target ≡ operand s 1 → key ≡ operand s 0 → None ≡ remove_refusal s target key → read_value s target (key_of key) ≡ Some v
    → t ≡ remove_result s target (key_of key) → u ≡ kept (with_last 2 (Some v) t) → take_change s ≡ Done u
take_done s t u target key v at by allowed value left end =
    done (remove_refusal s (operand s 1) (operand s 0)) (with_last 2 (read_value s (operand s 1) (key_of (operand s 0))) (remove_result s (operand s 1) (key_of (operand s 0)))) u
    (sym (allowed ∙ ap (λ t. remove_refusal s t key) at ∙ ap (remove_refusal s (operand s 1)) by))
    (end ∙ ap (λ w. kept (with_last 2 w t)) (sym value ∙ ap (λ t. read_value s t (key_of key)) at ∙ ap (λ k. read_value s (operand s 1) (key_of k)) by)
    ∙ ap (λ x. kept (with_last 2 (read_value s (operand s 1) (key_of (operand s 0))) x)) (left ∙ ap (λ t. remove_result s t (key_of key)) at ∙ ap (λ k. remove_result s (operand s 1) (key_of k)) by))

-- what is taken leaves the slots
pub slots_left : (s : State) (target : Value) (k : Option Key) → (remove_result s target k).slots ≡ s.slots
slots_left s (value.Obj o) (Some k) = refl
slots_left s (value.Cown c) (Some k) = refl
slots_left s _ _ = refl
