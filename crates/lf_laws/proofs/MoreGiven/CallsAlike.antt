-- With more frozen rows each call makes the same of the state, and each question has the same answer.
use Rattle.std.proofs.Common.{List, None, Option, Some, ap, refl, ℕ, ◌∙◌, ◌≡◌}
use Rattle.std.specs.Option.{option_map, option_or}
use Rattle.lf_base.specs.declared.faults.Fault.{Fault}
use Rattle.lf_base.specs.declared.questions.Answer.TheVariants as answer
use Rattle.lf_base.specs.declared.questions.Question.{Question}
use Rattle.lf_base.specs.declared.questions.Question.TheVariants as question
use Rattle.lf_base.specs.declared.values.Value.{Value}
use Rattle.lf_base.specs.declared.values.Value.TheVariants.{Cown}
use Rattle.lf_base.specs.Accesses.{read_value, remove_result, store_result}
use Rattle.lf_base.specs.Asking.{answer_to, asked, asked_by, asked_of, fault_of_question}
use Rattle.lf_base.specs.HeapCalls.{close_change, dissolve_change, lift_change, load_change, making_refusal, merge_change, merged_by, new_cown_change, new_object_change, new_region_change, read_change, take_change, unless_refused, unset_change, write_change}
use Rattle.lf_base.specs.MoreGiven.{More, change_given, with_given}
use Rattle.lf_base.specs.Names.{key_of}
use Rattle.lf_base.specs.NewCown.{made_result, next_cown}
use Rattle.lf_base.specs.Operands.{operand, set_value, with_last, without_last}
use Rattle.lf_base.specs.Owners.{bridge_of}
use Rattle.lf_base.specs.PlainChanges.{slot_at}
use Rattle.lf_base.specs.PlainState.{Row, State}
use Rattle.lf_base.specs.WellFormed.{SlotMayHold}
use Rattle.lf_laws.proofs.KeptStates.CallsSettle.{fewer, holds_at, holds_operand}
use Rattle.lf_laws.proofs.MoreGiven.ReadsAlike.{borrowed_alike, children_alike, closed_alike, label_alike, read_alike, refs_alike}
use Rattle.lf_laws.proofs.MoreGiven.RefusalsAlike.{closed_given, dissolve_alike, dissolved_given, merge_alike, merged_given, new_cown_alike, read_refused_alike, remove_alike, remove_given, store_alike, store_given}

by_refusal : (f : Option Fault) (t : State) (many : List Row) → unless_refused f (with_given t many) ≡ change_given many (unless_refused f t)
by_refusal None t many = refl
by_refusal (Some f) t many = refl

alike : (f g : Option Fault) (t u : State) (many : List Row) → f ≡ g → t ≡ with_given u many → unless_refused f t ≡ change_given many (unless_refused g u)
alike f g t u many e k = (λ i. unless_refused (e i) (k i)) ∙ by_refusal g u many

module _ (s : State) (many : List Row) (h : More s many) where
  abbrev big : State
  big = with_given s many

  may : (down : ℕ) → SlotMayHold s (operand s down)
  may down = holds_operand s h.whole down

  pub load_alike : (at : ℕ) → load_change at big ≡ change_given many (load_change at s)
  load_alike at = by_refusal _ _ many

  pub lift_alike : (at : ℕ) → lift_change at big ≡ change_given many (lift_change at s)
  lift_alike at = by_refusal _ _ many

  pub unset_alike : (at : ℕ) → unset_change at big ≡ change_given many (unset_change at s)
  unset_alike at = by_refusal _ _ many

  pub new_object_alike : new_object_change big ≡ change_given many (new_object_change s)
  new_object_alike = by_refusal _ _ many

  pub new_region_alike : new_region_change big ≡ change_given many (new_region_change s)
  new_region_alike = by_refusal _ _ many

  -- without the operand's slot
  more_below : More (without_last 1 s) many
  more_below = record { whole = fewer s h.whole 1; more = fewer big h.more 1; holds = h.holds }

  may_below : SlotMayHold (without_last 1 s) (operand s 0)
  may_below = let m = may 0 in record { object_there = m.object_there; cown_numbered = m.cown_numbered }

  pub made_alike : new_cown_change big ≡ change_given many (new_cown_change s)
  made_alike = alike _ _ _ (with_last 1 (Some (Cown (next_cown s))) (made_result s (operand s 0))) many
      (ap (λ f. option_or f (making_refusal s)) (new_cown_alike (without_last 1 s) many more_below (operand s 0) may_below)) refl

  value_alike : read_value big (operand s 1) (key_of (operand s 0)) ≡ read_value s (operand s 1) (key_of (operand s 0))
  value_alike = read_alike s many h (operand s 1) (key_of (operand s 0)) (may 1)

  pub read_call_alike : read_change big ≡ change_given many (read_change s)
  read_call_alike = alike _ _ _ (with_last 2 (read_value s (operand s 1) (key_of (operand s 0))) s) many
      (read_refused_alike s many h (operand s 1) (operand s 0) (may 1)) (ap (λ w. with_last 2 w big) value_alike)

  pub write_alike : write_change big ≡ change_given many (write_change s)
  write_alike = alike _ _ _ (without_last 3 (store_result s (operand s 2) (key_of (operand s 1)) (operand s 0))) many
      (store_alike s many h (operand s 2) (operand s 1) (operand s 0) (may 0)) (ap (without_last 3) (store_given s many (operand s 2) (key_of (operand s 1)) (operand s 0)))

  pub take_alike : take_change big ≡ change_given many (take_change s)
  take_alike = alike _ _ _ (with_last 2 (read_value s (operand s 1) (key_of (operand s 0))) (remove_result s (operand s 1) (key_of (operand s 0)))) many
      (remove_alike s many h (operand s 1) (operand s 0)) (λ i. with_last 2 (value_alike i) (remove_given s many (operand s 1) (key_of (operand s 0)) i))

  pub merge_call_alike : merge_change big ≡ change_given many (merge_change s)
  merge_call_alike = alike _ _ _ (without_last 1 (merged_by (bridge_of s (operand s 1)) (bridge_of s (operand s 0)) s)) many
      (merge_alike s many h (operand s 1) (operand s 0)) (ap (without_last 1) (merged_given s many (bridge_of s (operand s 1)) (bridge_of s (operand s 0))))

  pub dissolve_call_alike : dissolve_change big ≡ change_given many (dissolve_change s)
  dissolve_call_alike = alike _ _ _ _ many (dissolve_alike s many h (operand s 0)) (dissolved_given s many (bridge_of s (operand s 0)))

  pub close_alike : (at : ℕ) → close_change at big ≡ change_given many (close_change at s)
  close_alike at = alike _ _ _ _ many refl (closed_given s many h at (bridge_of s (set_value (slot_at s.slots at))))

  -- ---- questions
  answer_alike : (q : Question) (at : ℕ) (v : Value) → SlotMayHold s v → answer_to big q at v ≡ answer_to s q at v
  answer_alike question.Refs at v m = ap (option_map answer.Number) (refs_alike s many h v)
  answer_alike question.Borrowed at v m = ap (option_map answer.Number) (borrowed_alike s many h v)
  answer_alike question.OpenChildren at v m = ap (option_map answer.Number) (children_alike s many h v)
  answer_alike question.Owner at v m = ap (λ l. Some (answer.Label l)) (label_alike s many h v m)
  answer_alike question.IsClosed at v m = ap (option_map answer.Truth) (closed_alike s many h at v)

  asked_slot : (q : Question) (at : ℕ) (w : Option Value) → slot_at s.slots at ≡ w → asked_of big q at w ≡ asked_of s q at w
  asked_slot q at None e = refl
  asked_slot q at (Some v) e = ap (asked_by (fault_of_question q)) (answer_alike q at v (holds_at s h.whole at v e))

  pub asked_alike : (q : Question) (at : ℕ) → asked big q at ≡ asked s q at
  asked_alike q at = asked_slot q at (slot_at s.slots at) refl
