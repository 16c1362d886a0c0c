-- How many slots each action leaves.
use Rattle.std.proofs.Common.{Bool, List, None, Option, Some, arith, cond, false, length, ltb, refl, subst, suc, sym, true, zero, ℕ, ◌+◌, ◌-◌, ◌<◌, ◌≡◌, ◌≤◌}
use Rattle.std.proofs.lemmas.Bool.{eqb-true, ltb-false, ltb-true}
use Rattle.lf_base.specs.declared.faults.Fault.{Fault}
use Rattle.lf_base.specs.declared.faults.Fault.TheVariants.{OutputFull}
use Rattle.lf_base.specs.declared.values.Value.TheVariants as value
use Rattle.lf_base.specs.Asking.{Answered, Asked, NotAnswered, asked, value_of_answer}
use Rattle.lf_base.specs.HeapCalls.{Changed, Done, Refused, close_change, dissolve_change, lift_change, load_change, merge_change, new_object_change, new_region_change}
use Rattle.lf_base.specs.HeapCalls.{read_change, take_change, unset_change, write_change}
use Rattle.lf_base.specs.Operands.{operand, popped, pushed, put_down}
use Rattle.lf_base.specs.PlainState.{State}
use Rattle.lf_base.specs.Texts.{Text}
use Rattle.lf_code.specs.declared.body.Body.{Body}
use Rattle.lf_code.specs.declared.instr.AskName.{AskName}
use Rattle.lf_code.specs.declared.instr.AskName.TheVariants as ask_name
use Rattle.lf_base.specs.declared.questions.Question.{Question}
use Rattle.lf_base.specs.declared.questions.Question.TheVariants as question
use Rattle.lf_code.specs.declared.instr.BuiltName.TheVariants as built_name
use Rattle.lf_code.specs.declared.instr.Instr.{Instr}
use Rattle.lf_code.specs.declared.instr.Instr.TheVariants as instr
use Rattle.lf_code.specs.Actions.{binary_change, brought_down, left_down_to, pops, replaced, test_by, last_truth, tick_by, unary_change, unset_pushed}
use Rattle.lf_code.specs.Asks.{answer_pushed, ask_by, ask_change, none_pushed, question_of}
use Rattle.lf_code.specs.Operations.{leaves, needs}
use Rattle.lf_code.specs.Operators.{Computed, Faults, Yields, binary, unary}
use Rattle.lf_code.specs.Progress.{Did, Does, Faulted, Progress, did_change}
use Rattle.lf_code.specs.ValidCode.{instr_fits}
use Rattle.lf_heap.proofs.Calls.SlotsAfter.{slots_closed, slots_dissolved, slots_lifted, slots_loaded, slots_merged, slots_popped, slots_pushed, slots_put, slots_read, slots_taken, slots_unset, slots_with_object, slots_with_region, slots_written}
use Rattle.lf_machine.specs.Actions.{action_of}
use Rattle.lf_machine.specs.Forms.{goes_on, runs}

-- an action takes so many slots away and leaves so many, unless it is refused
abbrev pub Moves : ℕ → ℕ → Progress → Did → Type 0
Moves n m c (Does d) = length d.state.slots + n ≡ length c.state.slots + m
Moves n m c (Faulted fault) = Unit {0}

-- the same of a change of the state
abbrev MovesState : ℕ → ℕ → State → Changed → Type 0
MovesState n m s (Done t) = length t.slots + n ≡ length s.slots + m
MovesState n m s (Refused fault) = Unit {0}

by_state : (n m : ℕ) (c : Progress) (x : Changed) → MovesState n m c.state x → Moves n m c (did_change c x)
by_state n m c (Done t) h = h
by_state n m c (Refused fault) h = tt

by_done : (n m : ℕ) (s : State) (x : Changed) → ((t : State) → x ≡ Done t → length t.slots + n ≡ length s.slots + m) → MovesState n m s x
by_done n m s (Done t) h = h t refl
by_done n m s (Refused fault) h = tt

pub pops_slots : (n : ℕ) (s : State) → n ≤ length s.slots → length (pops n s).slots + n ≡ length s.slots
pops_slots zero s h = omega arith
pops_slots (suc n) s h =
    let one = slots_popped s (omega (arith, h)) in
    omega (arith, one, pops_slots n (popped s) (omega (arith, one, h)))

pub unset_slots : (n : ℕ) (s : State) → length (unset_pushed n s).slots ≡ length s.slots + n
unset_slots zero s = omega arith
unset_slots (suc n) s = omega (arith, unset_slots n (pushed None s), slots_pushed s None)

replaced_moves : (n : ℕ) (s : State) (r : Computed) → n ≤ length s.slots → MovesState n 1 s (replaced n s r)
replaced_moves n s (Yields v) h = omega (arith, slots_pushed (pops n s) (Some v), pops_slots n s h)
replaced_moves n s (Faults fault) h = tt

answered_moves : (s : State) (a : Asked) → MovesState 0 1 s (answer_pushed s a)
answered_moves s (Answered a) = omega (arith, slots_pushed s (Some (value_of_answer a)))
answered_moves s (NotAnswered fault) = tt

closed_moves : (s : State) (x : Changed) → ((t : State) → x ≡ Done t → length t.slots ≡ length s.slots) → MovesState 0 1 s (none_pushed x)
closed_moves s (Done t) h = omega (arith, h t refl, slots_pushed t (Some value.None))
closed_moves s (Refused fault) h = tt

tick_moves : (n : ℕ) (c : Progress) → Moves 0 0 c (tick_by n c)
tick_moves zero c = tt
tick_moves (suc n) c = omega arith

test_moves : (o : Option Bool) (c : Progress) → Moves 1 1 c (test_by o c)
test_moves None c = tt
test_moves (Some b) c = omega arith

chosen : (b : Bool) (n m : ℕ) (c d : Progress) (fault : Fault) → Moves n m c (Does d) → Moves n m c (cond b (Does d) (Faulted fault))
chosen true n m c d fault h = h
chosen false n m c d fault h = tt

module _ (bodies : List Body) (texts : List Text) (vars addresses base : ℕ) (c : Progress) where
  abbrev MovesBy : Instr → Type 0
  MovesBy i = Moves (needs i) (leaves i) c (action_of texts base i c)

  asks : (name : AskName) (q : Question) (v : ℕ) → question_of name ≡ Some q → Moves 0 1 c (did_change c (ask_change name (base + v) c.state))
  asks name q v e =
      by_state 0 1 c (ask_change name (base + v) c.state)
      (subst (λ o. MovesState 0 1 c.state (ask_by o (base + v) c.state)) (sym e) (answered_moves c.state (asked c.state q (base + v))))

  -- each action moves the slots that its instruction needs and leaves
  pub moved : (i : Instr) → goes_on i ≡ true → runs i ≡ true → instr_fits bodies (length texts) vars addresses i ≡ true
      → needs i ≤ length c.state.slots → MovesBy i
  moved instr.Tick g r f h = tick_moves c.ticks c
  moved instr.None g r f h = omega (arith, slots_pushed c.state (Some value.None))
  moved (instr.Bool b) g r f h = omega (arith, slots_pushed c.state (Some (value.Bool b)))
  moved (instr.Int n) g r f h = omega (arith, slots_pushed c.state (Some (value.Int n)))
  moved (instr.Text t) g r f h = omega (arith, slots_pushed c.state (Some (value.Text t)))
  moved (instr.Get v) g r f h = by_state 0 1 c (load_change (base + v) c.state)
      (by_done 0 1 c.state (load_change (base + v) c.state) (λ t e. omega (arith, slots_loaded c.state t (base + v) e)))
  moved (instr.Take v) g r f h = by_state 0 1 c (lift_change (base + v) c.state)
      (by_done 0 1 c.state (lift_change (base + v) c.state) (λ t e. omega (arith, slots_lifted c.state t (base + v) e)))
  moved (instr.Set v) g r f h = omega (arith, slots_put c.state (base + v) h)
  moved (instr.Drop v) g r f h = by_state 0 0 c (unset_change (base + v) c.state)
      (by_done 0 0 c.state (unset_change (base + v) c.state) (λ t e. omega (arith, slots_unset c.state t (base + v) e)))
  moved instr.Object g r f h = by_state 0 1 c (new_object_change c.state)
      (by_done 0 1 c.state (new_object_change c.state) (λ t e. omega (arith, slots_with_object c.state t e)))
  moved instr.Read g r f h = by_state 2 1 c (read_change c.state)
      (by_done 2 1 c.state (read_change c.state) (λ t e. omega (arith, slots_read c.state t h e)))
  moved instr.Write g r f h = by_state 3 0 c (write_change c.state)
      (by_done 3 0 c.state (write_change c.state) (λ t e. omega (arith, slots_written c.state t h e)))
  moved instr.Remove g r f h = by_state 2 1 c (take_change c.state)
      (by_done 2 1 c.state (take_change c.state) (λ t e. omega (arith, slots_taken c.state t h e)))
  moved (instr.Unary op) g r f h = by_state 1 1 c (unary_change op c.state) (replaced_moves 1 c.state (unary op (operand c.state 0)) h)
  moved (instr.Binary op) g r f h = by_state 2 1 c (binary_change op c.state)
      (replaced_moves 2 c.state (binary op (operand c.state 1) (operand c.state 0)) h)
  moved (instr.Jump a) g r f h = absurd (cc)
  moved (instr.Unless a) g r f h = absurd (cc)
  moved (instr.And a) g r f h = absurd (cc)
  moved (instr.Or a) g r f h = absurd (cc)
  moved instr.Test g r f h = test_moves (last_truth c) c
  moved (instr.Call body count) g r f h = absurd (cc)
  moved instr.Return g r f h = absurd (cc)
  moved (instr.Built built_name.Print n) g r f h =
      chosen _ n 1 c _ OutputFull (omega (arith, slots_pushed (pops n c.state) (Some value.None), pops_slots n c.state h))
  moved (instr.Built built_name.Region n) g r f h =
      let none : n ≡ 0 = eqb-true n 0 f in
      by_state n 1 c (new_region_change c.state)
      (by_done n 1 c.state (new_region_change c.state) (λ t e. omega (arith, none, slots_with_region c.state t e)))
  moved (instr.Built built_name.Cown n) g r f h = absurd (cc)
  moved (instr.Built built_name.Freeze n) g r f h =
      let one : n ≡ 1 = eqb-true n 1 f in
      omega (arith, one)
  moved (instr.Built built_name.Merge n) g r f h =
      let two : n ≡ 2 = eqb-true n 2 f in
      by_state n 1 c (merge_change c.state)
      (by_done n 1 c.state (merge_change c.state) (λ t e. omega (arith, two, slots_merged c.state t (omega (arith, two, h)) e)))
  moved (instr.Built built_name.Dissolve n) g r f h =
      let one : n ≡ 1 = eqb-true n 1 f in
      by_state n 1 c (dissolve_change c.state)
      (by_done n 1 c.state (dissolve_change c.state) (λ t e. omega (arith, one, slots_dissolved c.state t e)))
  moved (instr.Ask ask_name.Close v) g r f h =
      by_state 0 1 c (none_pushed (close_change (base + v) c.state)) (closed_moves c.state (close_change (base + v) c.state) (λ t e. slots_closed c.state t (base + v) e))
  moved (instr.Ask ask_name.Refs v) g r f h = asks ask_name.Refs question.Refs v refl
  moved (instr.Ask ask_name.Borrowed v) g r f h = asks ask_name.Borrowed question.Borrowed v refl
  moved (instr.Ask ask_name.OpenChildren v) g r f h = asks ask_name.OpenChildren question.OpenChildren v refl
  moved (instr.Ask ask_name.Owner v) g r f h = asks ask_name.Owner question.Owner v refl
  moved (instr.Ask ask_name.IsClosed v) g r f h = asks ask_name.IsClosed question.IsClosed v refl
  moved (instr.When body cowns captures) g r f h = absurd (cc)
  moved instr.Pop g r f h = omega (arith, slots_popped c.state h)

-- a frame that goes leaves its first slot alone
module _ (base : ℕ) (s : State) (there : base + 1 ≤ length s.slots) where
  left_by : (b : Bool) → ltb (base + 1) (length s.slots) ≡ b → length (left_down_to (base + 1) (brought_down b base s)).slots ≡ base + 1
  left_by true e =
      let more : base + 1 < length s.slots = ltb-true (base + 1) (length s.slots) e in
      let t = put_down base s in
      let put : length t.slots + 1 ≡ length s.slots = slots_put s base (omega (arith, there)) in
      omega (arith, more, put, pops_slots (length t.slots - (base + 1)) t (omega arith))
  left_by false e =
      let last : length s.slots ≤ base + 1 = ltb-false (base + 1) (length s.slots) e in
      omega (arith, there, last, pops_slots (length s.slots - (base + 1)) s (omega arith))

  pub left_slots : length (left_down_to (base + 1) (brought_down (ltb (base + 1) (length s.slots)) base s)).slots ≡ base + 1
  left_slots = left_by (ltb (base + 1) (length s.slots)) refl
