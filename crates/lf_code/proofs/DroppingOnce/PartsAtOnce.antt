-- The parts of each instruction at once.
use Rattle.std.proofs.Common.{Bool, List, None, Option, Some, [], ap, append_assoc, append-nil, arith, false, inl, inr, length, ltb, refl}
use Rattle.std.proofs.Common.{subst, suc}
use Rattle.std.proofs.Common.{sym, true, zero, ℕ, ◌++◌, ◌+◌, ◌-◌, ◌<◌, ◌∙◌, ◌≡◌, ◌∷◌}
use Rattle.std.specs.Prelude.{replicate, take}
use Rattle.std.proofs.lemmas.Bool.{ltb-false, ltb-true}
use Rattle.std.proofs.lemmas.List.{length-take-le, take_all}
use Rattle.std.proofs.lemmas.Option.{none-some}
use Rattle.lf_base.specs.declared.faults.Fault.{Fault}
use Rattle.lf_base.specs.declared.ids.ObjId.{ObjId}
use Rattle.lf_base.specs.declared.values.Op.{Op}
use Rattle.lf_base.specs.declared.values.Value.{Value}
use Rattle.lf_base.specs.declared.values.Value.TheVariants as value
use Rattle.lf_base.specs.CloseResult.{close_refusal, close_result}
use Rattle.lf_base.specs.HeapCalls.{Done, close_change, on_bridge, unless_refused}
use Rattle.lf_base.specs.Kept.{kept}
use Rattle.lf_base.specs.Operands.{operand, popped, pushed, put_down, set_value, slot_below, with_last, without_last}
use Rattle.lf_base.specs.Owners.{bridge_of}
use Rattle.lf_base.specs.PlainChanges.{put_slot, slot_at, with_slot, with_slot_at, with_slots}
use Rattle.lf_base.specs.PlainState.{State}
use Rattle.lf_base.specs.SettledStates.{Settled}
use Rattle.lf_base.specs.Sets.{Member}
use Rattle.lf_base.specs.WellFormed.{SlotMayHold, WellFormed}
use Rattle.lf_base.proofs.ListLemmas.Members.{Member_left, Member_of_append}
use Rattle.lf_laws.proofs.Changes.FewerFields.{at_member, close_keeps, put_member}
use Rattle.lf_laws.proofs.Changes.FurtherSlot.{slot_held}
use Rattle.lf_laws.proofs.Changes.SameOwners.{slots_keep, value_may_be_held}
use Rattle.lf_laws.proofs.Dropping.KeptState.{well_formed_kept}
use Rattle.lf_laws.proofs.KeptStates.CallsSettle.{fewer, first_ones, popped_settles, pushed_settles, put_down_settles}
use Rattle.lf_laws.proofs.KeptStates.NothingDropped.{more_slots, slot_more}
use Rattle.lf_laws.proofs.KeptStates.SlotsInParts.{fewer_in_parts, slots_in_parts}
use Rattle.lf_code.specs.declared.instr.Prefix.{Prefix}
use Rattle.lf_code.specs.Actions.{binary_change, brought_down, left_down_to, pops, replaced, unary_change, unset_pushed}
use Rattle.lf_code.specs.Asks.{none_pushed}
use Rattle.lf_code.specs.DroppingOnce.{IsPlain, YieldsPlain, closed_once, entered_once, left_once, replaced_once}
use Rattle.lf_code.specs.Operators.{Computed, Faults, Yields, binary, unary}
use Rattle.lf_code.proofs.DroppingOnce.PlainResults.{binary_plain, unary_plain}
use Rattle.lf_code.proofs.DroppingOnce.SlotLists.{front_and_last, one_and_more, put_length, take_of_take, up_to_put}

-- ---- slots that go
pub pops_once : (n : ℕ) (s : State) → Settled s → pops n s ≡ kept (without_last n s)
pops_once zero s h = sym (ap (λ xs. kept (with_slots s xs)) (take_all (length s.slots - 0) s.slots (omega arith)) ∙ h.all_stay)
pops_once (suc n) s h =
    let t = without_last 1 s in
    pops_once n (popped s) (popped_settles s h.well_formed)
    ∙ fewer_in_parts t (fewer s h.well_formed 1) (take (length t.slots - n) t.slots)
    (λ v m. first_ones (length t.slots - n) t.slots (Some v) m)
    ∙ ap (λ xs. kept (with_slots s xs)) (one_and_more s.slots n)

-- ---- a value that comes
plain_held : (s : State) (v : Value) → IsPlain v → SlotMayHold s v
plain_held s v h = record { object_there = λ o m. absurd (subst (Member o) h.0 m); cown_numbered = λ c m. absurd (subst (Member c) h.1 m) }

-- one plain value more, behind a change
plain_behind : (t : State) (v : Value) → WellFormed t → IsPlain v → pushed (Some v) (kept t) ≡ kept (with_slot t (Some v))
plain_behind t v w h = slots_in_parts t w (t.slots ++ Some v ∷ []) (λ u m. elim (Member_of_append (Some u) t.slots (Some v ∷ []) m) [
  | inl k ↦ value_may_be_held (kept t) u (well_formed_kept t w) (slot_held (kept t) u k)
  | inr (inl e) ↦ let same : v ≡ u = cc in subst (SlotMayHold (kept t)) same (plain_held (kept t) v h)
  | inr (inr k) ↦ absurd k
])

pub printed_once : (n : ℕ) (s : State) (v : Value) → Settled s → IsPlain v → pushed (Some v) (pops n s) ≡ kept (with_last n (Some v) s)
printed_once n s v h p = ap (pushed (Some v)) (pops_once n s h) ∙ plain_behind (without_last n s) v (fewer s h.well_formed n) p

replaced_by : (n : ℕ) (s : State) (r : Computed) → Settled s → YieldsPlain r → replaced n s r ≡ replaced_once n s r
replaced_by n s (Yields v) h p = ap Done (printed_once n s v h p)
replaced_by n s (Faults fault) h p = refl

pub unary_once : (op : Prefix) (s : State) → Settled s → unary_change op s ≡ replaced_once 1 s (unary op (operand s 0))
unary_once op s h = replaced_by 1 s (unary op (operand s 0)) h (unary_plain op (operand s 0))

pub binary_once : (op : Op) (s : State) → Settled s → binary_change op s ≡ replaced_once 2 s (binary op (operand s 1) (operand s 0))
binary_once op s h = replaced_by 2 s (binary op (operand s 1) (operand s 0)) h (binary_plain op (operand s 1) (operand s 0))

-- ---- variables that come
unset_is : (n : ℕ) (s : State) → Settled s → unset_pushed n s ≡ with_slots s (s.slots ++ replicate n None)
unset_is zero s h = ap (with_slots s) (sym (append-nil s.slots))
unset_is (suc n) s h =
    let ws = (s.slots ++ None ∷ []) ++ replicate n None in
    unset_is n (pushed None s) (pushed_settles s h.well_formed None (λ v e. absurd (none-some v e)))
    ∙ ap (λ t. with_slots t ws) (slot_more s None h.all_stay)
    ∙ ap (with_slots s) (append_assoc s.slots (None ∷ []) (replicate n None))

pub enter_once : (n : ℕ) (s : State) → Settled s → unset_pushed n s ≡ entered_once n s
enter_once n s h =
    unset_is n s h ∙ sym (more_slots s (s.slots ++ replicate n None) h.all_stay (λ v m. Member_left (Some v) s.slots (replicate n None) m))

-- ---- a frame that goes
module _ (base : ℕ) (s : State) (h : Settled s) (there : base < length s.slots) where
  abbrev front : List (Option Value)
  front = take (length s.slots - 1) s.slots

  abbrev put : State
  put = with_slot_at (without_last 1 s) base (slot_below s 0)

  put_holds : (v : Value) → Member (Some v) (put_slot front base (slot_below s 0)) → SlotMayHold s v
  put_holds v m = elim (put_member front base (slot_below s 0) (Some v) m) [
    | inl k ↦ value_may_be_held s v h.well_formed (slot_held s v (first_ones (length s.slots - 1) s.slots (Some v) k))
    | inr e ↦ value_may_be_held s v h.well_formed (slot_held s v (at_member s.slots (length s.slots - 1) v e))
  ]

  put_well_formed : WellFormed put
  put_well_formed = slots_keep s (put_slot front base (slot_below s 0)) h.well_formed put_holds

  front_length : length put.slots ≡ length s.slots - 1
  front_length = put_length front base (slot_below s 0) ∙ length-take-le (length s.slots - 1) s.slots (omega arith)

  left_by : (b : Bool) → ltb (base + 1) (length s.slots) ≡ b → left_down_to (base + 1) (brought_down b base s) ≡ left_once base s
  left_by true e =
      let more : base + 1 < length s.slots = ltb-true (base + 1) (length s.slots) e in
      let m = length put.slots - (base + 1) in
      pops_once m (put_down base s) (put_down_settles s h.well_formed base)
      ∙ fewer_in_parts put put_well_formed (take (length put.slots - m) put.slots)
      (λ v k. first_ones (length put.slots - m) put.slots (Some v) k)
      ∙ ap (λ n. kept (with_slots s (take n put.slots))) (omega (arith, more, front_length))
      ∙ ap (λ xs. kept (with_slots s xs))
      (up_to_put front base (slot_below s 0) (omega (arith, more, length-take-le (length s.slots - 1) s.slots (omega arith)))
      ∙ ap (λ xs. xs ++ slot_below s 0 ∷ []) (take_of_take base (length s.slots - 1) s.slots (omega (arith, more))))
  left_by false e =
      let last : length s.slots ≡ base + 1 = omega (arith, there, ltb-false (base + 1) (length s.slots) e) in
      let at : length s.slots - 1 ≡ base = omega (arith, last) in
      let none : length s.slots - (base + 1) ≡ 0 = omega (arith, last) in
      ap (λ n. pops n s) none
      ∙ sym (ap (λ xs. kept (with_slots s xs)) (ap (λ n. take base s.slots ++ slot_at s.slots n ∷ []) at ∙ front_and_last s.slots base last)
      ∙ h.all_stay)

  pub leave_once : left_down_to (base + 1) (brought_down (ltb (base + 1) (length s.slots)) base s) ≡ left_once base s
  leave_once = left_by (ltb (base + 1) (length s.slots)) refl

-- ---- a region that is closed
none_behind : (o : Option Fault) (t : State) → WellFormed t
    → none_pushed (unless_refused o t) ≡ unless_refused o (with_slot t (Some value.None))
none_behind None t w = ap Done (plain_behind t value.None w (refl, refl))
none_behind (Some fault) t w = refl

closed_well_formed : (r : Option ObjId) (at : ℕ) (s : State) → WellFormed s → WellFormed (on_bridge r (close_result s at) s)
closed_well_formed None at s w = w
closed_well_formed (Some r) at s w = close_keeps s at r w

pub close_once : (at : ℕ) (s : State) → WellFormed s → none_pushed (close_change at s) ≡ closed_once at s
close_once at s w =
    let r = bridge_of s (set_value (slot_at s.slots at)) in
    none_behind (close_refusal s at) (on_bridge r (close_result s at) s) (closed_well_formed r at s w)
