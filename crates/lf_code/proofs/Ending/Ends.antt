-- Ticked code comes to its end.
use Rattle.std.proofs.Common.{◌≡◌, ℕ, zero, suc, ◌+◌, ◌-◌, ◌*◌, ◌<◌, ◌≤◌, Bool, true, false, List, [], ◌∷◌, length, map, Option, Some, None}
use Rattle.std.proofs.Common.{refl, ap, subst, arith}
use Rattle.std.specs.Prelude.{slice_get}
use Rattle.std.proofs.lemmas.Option.{slice_get_within}
use Rattle.std.proofs.Math.Nat.{le-max_left, le-max_right}
use Rattle.lf_base.specs.declared.faults.FaultAt.{FaultAt}
use Rattle.lf_base.specs.declared.values.Value.TheVariants as value
use Rattle.lf_code.specs.declared.body.Body.{Body}
use Rattle.lf_code.specs.declared.body.Placed.{Placed}
use Rattle.lf_code.specs.declared.instr.Instr.{Instr}
use Rattle.lf_code.specs.declared.instr.Instr.TheVariants as instr
use Rattle.lf_code.specs.CodeStep.{Frame, Config, Running, Over, Program, code_step, act, acts, act_at, code_at, list_of, at_address}
use Rattle.lf_code.specs.CodeStep.{to_address, return_to, returned, call_by, frames_left, new_frame, vars_at, no_truth, led, IsOver}
use Rattle.lf_code.specs.Progress.{Progress, Did, Does, Faulted, flow_of, does, on_state, to_state, by_truth}
use Rattle.lf_code.specs.RunCode.{steps, longest, most_steps}
use Rattle.lf_code.specs.Ticked.{Ticked, target_of, instr_of}
use Rattle.lf_code.proofs.Ending.ActionTicks.{TicksWithin, on_state_within, to_state_within, test_within, spawn_within, built_within}
use Rattle.lf_base.specs.HeapCalls.{lift_change, load_change, new_object_change, read_change, take_change, unset_change, write_change}
use Rattle.lf_base.specs.Operands.{popped, pushed, put_down}
use Rattle.lf_code.specs.Actions.{base_of, binary_change, enter_by, last_truth, leave, pop_value, push_value, test_truth, tick_by}
use Rattle.lf_code.specs.Actions.{no_frame_left_by, unary_change, without_operand}
use Rattle.lf_code.specs.Prints.{built}
use Rattle.lf_code.specs.Asks.{ask_change}
use Rattle.lf_code.specs.Spawning.{spawn_of, spawns_one, when_fault}

mul_le : (a b c : ℕ) → a ≤ b → a * c ≤ b * c
mul_le a b zero le = omega arith
mul_le a b (suc c) le = omega (arith, mul_le a b c le, le)

-- ticks and frames weigh more than a place in a body
abbrev weight : ℕ → ℕ → ℕ → ℕ → ℕ
weight ticks frames w rank = (2 * ticks + frames) * w + rank

by_rank : (t u k w r q : ℕ) → t ≤ u → r < q → weight t k w r < weight u k w q
by_rank t u k w r q le lt = omega (arith, mul_le t u w le, lt)

by_tick : (t k w r q : ℕ) → r < w → weight t k w r < weight (suc t) k w q
by_tick t k w r q lt = omega (arith, lt)

by_call : (t k w r q : ℕ) → r < w → weight t (suc k) w r < weight (suc t) k w q
by_call t k w r q lt = omega (arith, lt)

by_return : (t k w r q : ℕ) → r < w → weight t k w r < weight t (suc k) w q
by_return t k w r q lt = omega (arith, lt)

positive : (t k w r : ℕ) → 0 < w → 0 < weight t (suc k) w r
positive t k w r lt = omega (arith, lt)

abbrev pub rank_by : ℕ → Instr → ℕ → ℕ
rank_by l instr.Tick at = 0
rank_by l _ at = l + 1 - at

abbrev pub rank_of : ℕ → Option Placed → ℕ → ℕ
rank_of l None at = 0
rank_of l (Some i) at = rank_by l i.instr at

rank_by_le : (l : ℕ) (i : Instr) (at : ℕ) → rank_by l i at ≤ l + 1 - at
rank_by_le l instr.Tick at = omega arith
rank_by_le l _ at = omega arith

rank_le : (l : ℕ) (o : Option Placed) (at : ℕ) → rank_of l o at ≤ l + 1 - at
rank_le l None at = omega arith
rank_le l (Some i) at = rank_by_le l i.instr at

rank_tick : (l : ℕ) (o : Option Placed) (at : ℕ) → instr_of o ≡ Some instr.Tick → rank_of l o at ≡ 0
rank_tick l None at e = absurd (cc)
rank_tick l (Some i) at e = let same : i.instr ≡ instr.Tick = cc in ap (λ j. rank_by l j at) same

to_target : (l at a r : ℕ) → at ≤ l → r ≤ l + 1 - a → (a ≤ at → r ≡ 0) → r < l + 1 - at
to_target l at a r small le back = grind arith

longest_is : (bs : List Body) (n : ℕ) → length (list_of (slice_get bs n)) ≤ longest bs + 2
longest_is [] n = omega arith
longest_is (b ∷ bs) zero = omega (arith, le-max_left (length b.list) (longest bs))
longest_is (b ∷ bs) (suc n) = omega (arith, longest_is bs n, le-max_right (length b.list) (longest bs))

module _ (p : Program) where
  -- no address is greater
  abbrev l : ℕ
  l = longest p.bodies + 2

  abbrev w : ℕ
  w = longest p.bodies + 4

  -- how far an instruction is from the end of the longest body; a tick is as good as there
  abbrev rank : ℕ → ℕ → ℕ
  rank body at = rank_of l (slice_get (code_at p body) at) at

  rank_below : (body at : ℕ) → rank body at < w
  rank_below body at = omega (arith, rank_le l (slice_get (code_at p body) at) at)

  abbrev measure : Config → ℕ
  measure (Over c g) = 0
  measure (Running f fs c) = weight c.ticks (suc (length fs)) w (rank f.body f.at)

  is_positive : (t k r : ℕ) → 0 < weight t (suc k) w r
  is_positive t k r = positive t k w r (omega arith)

  module _ (f : Frame) (fs : List Frame) (c : Progress) (small : f.at ≤ l) where
    -- the weight with this rank
    abbrev here : ℕ → ℕ
    here q = weight c.ticks (suc (length fs)) w q

    rank_next : rank f.body (f.at + 1) < l + 1 - f.at
    rank_next = omega (arith, small, rank_le l (slice_get (code_at p f.body) (f.at + 1)) (f.at + 1))

    at_fewer : (d : Progress) (a q : ℕ) → d.ticks ≤ c.ticks → rank f.body a < q → measure (at_address f fs a d) < here q
    at_fewer d a q le lt = by_rank d.ticks c.ticks (suc (length fs)) w (rank f.body a) q le lt

    did : (line : ℕ) (x : Did) → TicksWithin c.ticks (flow_of line c x)
        → measure (led (at_address f fs (f.at + 1)) (return_to f fs) (flow_of line c x)) < here (l + 1 - f.at)
    did line (Does d) h = at_fewer d (f.at + 1) (l + 1 - f.at) h rank_next
    did line (Faulted fault) h = is_positive c.ticks (length fs) (l + 1 - f.at)

    acted : (line : ℕ) (action : Progress → Did) → TicksWithin c.ticks (does line action c)
        → measure (acts line action f fs c) < here (l + 1 - f.at)
    acted line action h = did line (action c) h

    ticked : (line n : ℕ) → n ≡ c.ticks
        → measure (led (at_address f fs (f.at + 1)) (return_to f fs) (flow_of line c (tick_by n c))) < here 0
    ticked line zero e = is_positive c.ticks (length fs) 0
    ticked line (suc n) e = subst (λ t. weight n (suc (length fs)) w (rank f.body (f.at + 1)) < weight t (suc (length fs)) w 0) e
        (by_tick n (suc (length fs)) w (rank f.body (f.at + 1)) 0 (rank_below f.body (f.at + 1)))

    no_frame_left_falls : (line n q : ℕ)
        → measure (led (at_address f fs (f.at + 1)) (return_to f fs) (flow_of line c (no_frame_left_by n c))) < here q
    no_frame_left_falls line zero q = is_positive c.ticks (length fs) q
    no_frame_left_falls line (suc n) q = is_positive c.ticks (length fs) q

    enters : (line body base further n q : ℕ) → n ≡ c.ticks
        → measure (led (Running (new_frame body base) (to_address f (f.at + 1) ∷ fs)) (return_to f fs)
        (flow_of line c (enter_by n further c))) < here q
    enters line body base further zero q e = is_positive c.ticks (length fs) q
    enters line body base further (suc n) q e =
        subst (λ t. weight n (suc (suc (length fs))) w (rank body 0) < weight t (suc (length fs)) w q) e
        (by_call n (suc (length fs)) w (rank body 0) q (rank_below body 0))

    called : (n line body count q : ℕ) → measure (call_by p n line body count f fs c) < here q
    called zero line body count q = no_frame_left_falls line c.ticks q
    called (suc n) line body count q = enters line body (base_of count c) (vars_at p body - count) c.ticks q refl

    truth_falls : (o : Option Bool) (q : ℕ) (n h k : Progress → Config) → measure (n c) < q → measure (h c) < q → measure (k c) < q
        → measure (by_truth o c n h k) < q
    truth_falls None q n h k x y z = x
    truth_falls (Some true) q n h k x y z = y
    truth_falls (Some false) q n h k x y z = z

  returns : (gs : List Frame) (f : Frame) (c : Progress) (q : ℕ)
      → measure (returned gs (leave f.base c)) < weight c.ticks (suc (length gs)) w q
  returns [] f c q = is_positive c.ticks 0 q
  returns (g ∷ gs) f c q = by_return c.ticks (suc (length gs)) w (rank g.body g.at) q (rank_below g.body g.at)

  module _ (f : Frame) (fs : List Frame) (c : Progress) (small : f.at ≤ l) (line : ℕ) where
    abbrev top : ℕ
    top = weight c.ticks (suc (length fs)) w (l + 1 - f.at)

    nothing : 0 < top
    nothing = is_positive c.ticks (length fs) (l + 1 - f.at)

    -- a way on to the next instruction, and one to the target
    next_is : (d : Progress) → d.ticks ≤ c.ticks → measure (at_address f fs (f.at + 1) d) < top
    next_is d le = at_fewer f fs c small d (f.at + 1) (l + 1 - f.at) le (rank_next f fs c small)

    target_is : (a : ℕ) → (a ≤ f.at → instr_of (slice_get (code_at p f.body) a) ≡ Some instr.Tick) → (d : Progress) → d.ticks ≤ c.ticks
        → measure (at_address f fs a d) < top
    target_is a back d le =
        at_fewer f fs c small d a (l + 1 - f.at) le
        (to_target l f.at a (rank f.body a) small (rank_le l (slice_get (code_at p f.body) a) a)
        (λ h. rank_tick l (slice_get (code_at p f.body) a) a (back h)))

    falls_by : (i : Instr) → ((a : ℕ) → target_of i ≡ Some a → a ≤ f.at → instr_of (slice_get (code_at p f.body) a) ≡ Some instr.Tick)
        → measure (act p line i f fs c) < weight c.ticks (suc (length fs)) w (rank_by l i f.at)
    falls_by instr.Tick back = ticked f fs c small line c.ticks refl
    falls_by instr.None back = acted f fs c small line (push_value value.None) (to_state_within line (pushed (Some value.None)) c)
    falls_by (instr.Bool b) back =
        acted f fs c small line (push_value (value.Bool b)) (to_state_within line (pushed (Some (value.Bool b))) c)
    falls_by (instr.Int n) back = acted f fs c small line (push_value (value.Int n)) (to_state_within line (pushed (Some (value.Int n))) c)
    falls_by (instr.Text t) back =
        acted f fs c small line (push_value (value.Text t)) (to_state_within line (pushed (Some (value.Text t))) c)
    falls_by (instr.Get v) back = acted f fs c small line (on_state (load_change (f.base + v)))
        (on_state_within line (load_change (f.base + v)) c)
    falls_by (instr.Take v) back =
        acted f fs c small line (on_state (lift_change (f.base + v))) (on_state_within line (lift_change (f.base + v)) c)
    falls_by (instr.Set v) back = acted f fs c small line (to_state (put_down (f.base + v)))
        (to_state_within line (put_down (f.base + v)) c)
    falls_by (instr.Drop v) back =
        acted f fs c small line (on_state (unset_change (f.base + v))) (on_state_within line (unset_change (f.base + v)) c)
    falls_by instr.Object back = acted f fs c small line (on_state new_object_change) (on_state_within line new_object_change c)
    falls_by instr.Read back = acted f fs c small line (on_state read_change) (on_state_within line read_change c)
    falls_by instr.Write back = acted f fs c small line (on_state write_change) (on_state_within line write_change c)
    falls_by instr.Remove back = acted f fs c small line (on_state take_change) (on_state_within line take_change c)
    falls_by (instr.Unary op) back = acted f fs c small line (on_state (unary_change op)) (on_state_within line (unary_change op) c)
    falls_by (instr.Binary op) back = acted f fs c small line (on_state (binary_change op)) (on_state_within line (binary_change op) c)
    falls_by (instr.Jump a) back = target_is a (back a refl) c (omega arith)
    falls_by (instr.Unless a) back =
        truth_falls f fs c small (last_truth c) top (no_truth line) (λ d. at_address f fs (f.at + 1) (without_operand d))
        (λ d. at_address f fs a (without_operand d))
        nothing (next_is (without_operand c) (omega arith)) (target_is a (back a refl) (without_operand c) (omega arith))
    falls_by (instr.And a) back =
        truth_falls f fs c small (last_truth c) top (no_truth line) (λ d. at_address f fs (f.at + 1) (without_operand d))
        (at_address f fs a)
        nothing (next_is (without_operand c) (omega arith)) (target_is a (back a refl) c (omega arith))
    falls_by (instr.Or a) back =
        truth_falls f fs c small (last_truth c) top (no_truth line) (at_address f fs a)
        (λ d. at_address f fs (f.at + 1) (without_operand d))
        nothing (target_is a (back a refl) c (omega arith)) (next_is (without_operand c) (omega arith))
    falls_by instr.Test back = acted f fs c small line test_truth (test_within line c)
    falls_by (instr.Call body count) back = called f fs c small (frames_left fs) line body count (l + 1 - f.at)
    falls_by instr.Return back = returns fs f c (l + 1 - f.at)
    falls_by (instr.Built name count) back = acted f fs c small line (built p.texts name count) (built_within p.texts name count line c)
    falls_by (instr.Ask name v) back =
        acted f fs c small line (on_state (ask_change name (f.base + v))) (on_state_within line (ask_change name (f.base + v)) c)
    falls_by (instr.When body cowns captures) back =
        let vs = map (λ v. f.base + v) cowns in
        let ws = map (λ v. f.base + v) captures in
        acted f fs c small line (spawns_one body vs ws) (spawn_within (when_fault vs ws c) line c (spawn_of body vs ws c.state))
    falls_by instr.Pop back = acted f fs c small line pop_value (to_state_within line popped c)

  falls_at : Ticked p → (f : Frame) (fs : List Frame) (c : Progress) (o : Option Placed) → slice_get (code_at p f.body) f.at ≡ o
      → measure (act_at p o f fs c) < weight c.ticks (suc (length fs)) w (rank_of l o f.at)
  falls_at good f fs c None e = is_positive c.ticks (length fs) 0
  falls_at good f fs c (Some i) e =
      let within : f.at < length (code_at p f.body) = slice_get_within (code_at p f.body) f.at i e in
      falls_by f fs c (omega (arith, within, longest_is p.bodies f.body)) i.line i.instr (λ a. good f.body f.at a i e)

  falls : Ticked p → (f : Frame) (fs : List Frame) (c : Progress) → measure (code_step p (Running f fs c)) < measure (Running f fs c)
  falls good f fs c = falls_at good f fs c (slice_get (code_at p f.body) f.at) refl

  stays_over : (n : ℕ) (c : Progress) (g : Option FaultAt) → IsOver (steps p n (Over c g))
  stays_over zero c g = tt
  stays_over (suc n) c g = tt

  comes_over : Ticked p → (n : ℕ) (x : Config) → measure x < n → IsOver (steps p n x)
  comes_over good zero x lt = absurd (omega (arith, lt))
  comes_over good (suc n) (Over c g) lt = tt
  comes_over good (suc n) (Running f fs c) lt = comes_over good n (code_step p (Running f fs c)) (omega (arith, lt, falls good f fs c))

  -- as many instructions as that are enough
  pub enough : Ticked p → (body base : ℕ) (c : Progress) → IsOver (steps p (most_steps p c.ticks) (Running (new_frame body base) [] c))
  enough good body base c =
      comes_over good (most_steps p c.ticks) (Running (new_frame body base) [] c) (by_enough c.ticks w (rank body 0) (rank_below body 0))
    where
      by_enough : (t w r : ℕ) → r < w → weight t 1 w r < (2 * t + 2) * w
      by_enough t w r lt = omega (arith, lt)
