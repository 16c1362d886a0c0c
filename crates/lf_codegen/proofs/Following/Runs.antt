-- The machine follows the tree.
use Rattle.std.proofs.Common.{◌≡◌, ℕ, zero, suc, ◌+◌, ◌-◌, ◌<◌, ◌≤◌, Bool, true, false, List, [], ◌∷◌, ◌++◌, length, map, Option, Some}
use Rattle.std.proofs.Common.{None, refl, sym, ap, ◌∙◌, subst, arith}
use Rattle.std.specs.Prelude.{slice_get}
use Rattle.lf_base.specs.declared.faults.Fault.TheVariants.{Kind, OutOfTicks}
use Rattle.lf_base.specs.declared.values.Op.{Op}
use Rattle.lf_base.specs.declared.values.Value.TheVariants as value
use Rattle.lf_code.specs.declared.body.Placed.{Placed}
use Rattle.lf_code.specs.declared.instr.Instr.{Instr}
use Rattle.lf_code.specs.declared.instr.Instr.TheVariants as instr
use Rattle.lf_code.specs.declared.instr.Prefix.TheVariants.{Neg, Not}
use Rattle.lf_code.specs.Progress.{Progress, Did, Flow, Next, Return, Fails, ◌▷◌, fails, flow_of, does, on_state, to_state, by_truth}
use Rattle.lf_code.specs.CodeStep.{Frame, Config, Running, Over, Program, code_step, act, acts, act_at, code_at, vars_at, on_line, body_end}
use Rattle.lf_code.specs.CodeStep.{led, returned, return_to, at_address, to_address, frames_left, no_truth, call_by}
use Rattle.lf_code.proofs.Ending.Reaching.{Reaches, stop, go, on, one, CodeStandsAt, stands_front, stands_back, stands_end}
use Rattle.lf_parser.specs.Plain.{PlainExpr, PlainArgs, PlainStmt, PlainBlock, no_args, arg, no_stmts, stmt}
use Rattle.lf_parser.specs.Plain as plain
use Rattle.lf_parser.specs.declared.name.Name.{Name}
use Rattle.lf_codegen.specs.GeneratedCode.{program_of, expr_code, args_code, stmt_code, block_code, call_code, branches_code, round_code}
use Rattle.lf_codegen.specs.GeneratedCode.{joined_code, is_empty_block}
use Rattle.lf_codegen.specs.Meaning.{Callee, turns, slots_of, call_meaning, expr_meaning, args_meaning, stmt_meaning, block_meaning}
use Rattle.lf_codegen.specs.Meaning.{frame_end, calls_within_frames}
use Rattle.lf_codegen.specs.Mentions.{args_count}
use Rattle.lf_codegen.specs.declared.called.Called.{Called}
use Rattle.lf_codegen.specs.declared.called.Called.TheVariants.{Built, Question, Function}
use Rattle.lf_codegen.specs.Numbers.{PlainScript, called_of, asked_number, var_number, when_number, cown_names, capture_names, body_vars}
use Rattle.lf_codegen.specs.Numbers.{body_block}
use Rattle.lf_code.proofs.Ending.ActionTicks.{TicksBelow, TicksWithin, tick_below}
use Rattle.lf_codegen.proofs.Following.Ticks.{CallsWithin, below_then, expr_within, block_within}
use Rattle.lf_base.specs.HeapCalls.{Changed, lift_change, load_change, new_object_change, read_change, take_change, unset_change}
use Rattle.lf_base.specs.HeapCalls.{write_change}
use Rattle.lf_base.specs.Operands.{popped, pushed, put_down}
use Rattle.lf_code.specs.Actions.{base_of, binary_change, enter, last_truth, leave, no_frame_left, pop_value, push_value, test_truth, tick}
use Rattle.lf_code.specs.Actions.{unary_change, without_operand}
use Rattle.lf_code.specs.Prints.{built}
use Rattle.lf_code.specs.Asks.{ask_change}
use Rattle.lf_code.specs.Spawning.{spawns_one}

-- what a piece with that outcome does, goes on at next and returns at back
abbrev pub ConfigLeads : Program → Config → (Progress → Config) → (Progress → Config) → Flow → Type 0
ConfigLeads p x next back o = Reaches p x (led next back o)

module _ (p : Program) where
  pub both : (x : Config) (mid next back : Progress → Config) (o : Flow) (f : Progress → Flow) → ConfigLeads p x mid back o
      → ((d : Progress) → ConfigLeads p (mid d) next back (f d)) → ConfigLeads p x next back (o ▷ f)
  both x mid next back (Next d) f h k = on p h (k d)
  both x mid next back (Return d) f h k = h
  both x mid next back (Fails d at) f h k = h

  both_below : (t : ℕ) (x : Config) (mid next back : Progress → Config) (o : Flow) (f : Progress → Flow) → TicksBelow t o
      → ConfigLeads p x mid back o
      → ((d : Progress) → d.ticks < t → ConfigLeads p (mid d) next back (f d)) → ConfigLeads p x next back (o ▷ f)
  both_below t x mid next back (Next d) f b h k = on p h (k d b)
  both_below t x mid next back (Return d) f b h k = h
  both_below t x mid next back (Fails d at) f b h k = h

  truths : (w : Option Bool) (d : Progress) (n h l : Progress → Config) (next back : Progress → Config) (on_n on_h on_l : Progress → Flow)
      → ConfigLeads p (n d) next back (on_n d) → ConfigLeads p (h d) next back (on_h d) → ConfigLeads p (l d) next back (on_l d)
      → ConfigLeads p (by_truth w d n h l) next back (by_truth w d on_n on_h on_l)
  truths None d n h l next back on_n on_h on_l a b c = a
  truths (Some true) d n h l next back on_n on_h on_l a b c = b
  truths (Some false) d n h l next back on_n on_h on_l a b c = c

-- calls that may still nest n deep do what the machine does
abbrev pub CallsLead : Program → Callee → ℕ → Type 0
CallsLead p call n =
    (line body count : ℕ) (f : Frame) (fs : List Frame) (c : Progress) → frames_left fs ≡ n
    → slice_get (code_at p f.body) f.at ≡ Some (on_line line (instr.Call body count))
    → ConfigLeads p (Running f fs c) (at_address f fs (f.at + 1)) (return_to f fs) (call line body count c)

module _ (s : PlainScript) (vars : List Name) (call : Callee) (calls_within : CallsWithin call) (p : Program)
    (texts_same : p.texts ≡ s.texts)
    (body : ℕ) (base : ℕ) (fs : List Frame) (calls_lead : CallsLead p call (frames_left fs)) where
  abbrev frame : ℕ → Frame
  frame a = record { body = body; at = a; base = base }

  abbrev spot : ℕ → Progress → Config
  spot a c = Running (frame a) fs c

  abbrev home : Progress → Config
  home c = returned fs (leave base c)

  abbrev code : List Placed
  code = code_at p body

  abbrev To : Config → ℕ → Flow → Type 0
  To x b o = ConfigLeads p x (spot b) home o

  -- one piece, and then another
  then_to : (x : Config) (m b : ℕ) (o : Flow) (f : Progress → Flow) → To x m o → ((d : Progress) → To (spot m d) b (f d)) → To x b (o ▷ f)
  then_to x m b o f h k = both p x (spot m) (spot b) home o f h k

  -- an action
  acted : (line : ℕ) (i : Instr) (action : Progress → Did) (a b : ℕ) (c : Progress) → CodeStandsAt code a (on_line line i ∷ []) b
      → act p line i (frame a) fs c ≡ acts line action (frame a) fs c → To (spot a c) b (does line action c)
  acted line i action a b c h e = one p (frame a) fs c line i _ h.0 (e ∙ ap (λ n. led (spot n) home (does line action c)) h.1)

  -- a tick, and what follows
  ticked : (line a b : ℕ) (f : Progress → Flow) (c : Progress) → slice_get code a ≡ Some (on_line line instr.Tick)
      → ((d : Progress) → To (spot (a + 1) d) b (f d)) → To (spot a c) b (does line tick c ▷ f)
  ticked line a b f c h k = then_to (spot a c) (a + 1) b (does line tick c) f (acted line instr.Tick tick a (a + 1) c (h, refl) refl) k

  moved : (x : Config) (a b : ℕ) (o : Flow) → a ≡ b → To x a o → To x b o
  moved x a b o e h = subst (λ n. To x n o) e h

  -- the second operand of `and` and `or`, and the test after it
  second : (line a b : ℕ) (right : List Placed) (f : Progress → Flow) (d : Progress)
      → CodeStandsAt code a (right ++ on_line line instr.Test ∷ []) b
      → ((y : ℕ) (e : Progress) → CodeStandsAt code a right y → To (spot a e) y (f e)) → To (spot a d) b (f d ▷ does line test_truth)
  second line a b right f d h k =
      then_to (spot a d) (a + length right) b (f d) (does line test_truth) (k (a + length right) d (stands_front code a b right _ h))
      (λ e. acted line instr.Test test_truth (a + length right) b e (stands_back code a b right _ h) refl)

  -- where the code of a joined pair ends
  joined_end : (a b : ℕ) (right : List Placed) (line : ℕ) → CodeStandsAt code a (right ++ on_line line instr.Test ∷ []) b
      → a + length right + 1 ≡ b
  joined_end a b right line h = (stands_back code a b right _ h).1

  call_runs : (w : Called) (line : ℕ) (es : PlainArgs) (args_list : List Placed) (f : Progress → Flow) (a b : ℕ) (c : Progress)
      → CodeStandsAt code a (call_code s vars w line es args_list) b
      → ((y : ℕ) → CodeStandsAt code a args_list y → To (spot a c) y (f c))
      → To (spot a c) b (call_meaning s vars base call w line es f c)
  call_runs (Built name) line es args_list f a b c h k =
      let n = a + length args_list in
      then_to (spot a c) n b (f c) (does line (built s.texts name (args_count es))) (k n (stands_front code a b args_list _ h))
      (λ d. acted line (instr.Built name (args_count es)) (built s.texts name (args_count es)) n b d (stands_back code a b args_list _ h)
      (ap (λ ts. acts line (built ts name (args_count es)) (frame n) fs d) texts_same))
  call_runs (Question name) line es args_list f a b c h k =
      acted line (instr.Ask name (asked_number vars es)) (on_state (ask_change name (base + asked_number vars es))) a b c h refl
  call_runs (Function number) line es args_list f a b c h k =
      let n = a + length args_list in
      let last = stands_back code a b args_list _ h in
      then_to (spot a c) n b (f c) (call line number (args_count es)) (k n (stands_front code a b args_list _ h))
      (λ d. moved (spot n d) (n + 1) b (call line number (args_count es) d) last.1
      (calls_lead line number (args_count es) (frame n) fs d refl last.0))

  -- the code of an expression does what the expression means
  abbrev Ran : PlainExpr → Type 0
  Ran e = (line a b : ℕ) (c : Progress) → CodeStandsAt code a (expr_code s vars e line a) b
      → To (spot a c) b (expr_meaning s vars base call e line c)

  -- one expression, and an action
  single_runs : (e : PlainExpr) → Ran e → (line : ℕ) (i : Instr) (action : Progress → Did) (a b : ℕ) (c : Progress)
      → CodeStandsAt code a (expr_code s vars e line a ++ on_line line i ∷ []) b
      → ((n : ℕ) (d : Progress) → act p line i (frame n) fs d ≡ acts line action (frame n) fs d)
      → To (spot a c) b (expr_meaning s vars base call e line c ▷ does line action)
  single_runs e run line i action a b c h same =
      let ce = expr_code s vars e line a in
      let m = a + length ce in
      then_to (spot a c) m b (expr_meaning s vars base call e line c) (does line action) (run line a m c (stands_front code a b ce _ h))
      (λ d. acted line i action m b d (stands_back code a b ce _ h) (same m d))

  -- two expressions, and an action
  pair_runs : (l r : PlainExpr) → Ran l → Ran r → (line : ℕ) (i : Instr) (action : Progress → Did) (a b : ℕ) (c : Progress)
      → CodeStandsAt code a (expr_code s vars l line a
      ++ (expr_code s vars r line (a + length (expr_code s vars l line a)) ++ on_line line i ∷ [])) b
      → ((n : ℕ) (d : Progress) → act p line i (frame n) fs d ≡ acts line action (frame n) fs d)
      → To (spot a c) b ((expr_meaning s vars base call l line c ▷ expr_meaning s vars base call r line) ▷ does line action)
  pair_runs l r run_l run_r line i action a b c h same =
      let cl = expr_code s vars l line a in
      let m = a + length cl in
      let cr = expr_code s vars r line m in
      let n = m + length cr in
      let behind = stands_back code a b cl _ h in
      then_to (spot a c) n b (expr_meaning s vars base call l line c ▷ expr_meaning s vars base call r line) (does line action)
      (then_to (spot a c) m n (expr_meaning s vars base call l line c) (expr_meaning s vars base call r line)
      (run_l line a m c (stands_front code a b cl _ h))
      (λ d. run_r line m n d (stands_front code m b cr _ behind)))
      (λ d. acted line i action n b d (stands_back code m b cr _ behind) (same n d))

  -- `and`, and `or`
  and_runs : (l r : PlainExpr) → Ran l → Ran r → (line a b : ℕ) (c : Progress)
      → CodeStandsAt code a (expr_code s vars (plain.And l r) line a) b
      → To (spot a c) b (expr_meaning s vars base call (plain.And l r) line c)
  and_runs l r run_l run_r line a b c h =
      let cl = expr_code s vars l line a in
      let m = a + length cl in
      let cr = expr_code s vars r line (m + 1) in
      let behind = stands_back code a b cl _ h in
      let t = m + 1 + length cr + 1 in
      let at_end : t ≡ b = joined_end (m + 1) b cr line behind.1 in
      then_to (spot a c) m b (expr_meaning s vars base call l line c) _ (run_l line a m c (stands_front code a b cl _ h))
      (λ d. on p (one p (frame m) fs d line (instr.And t) _ behind.0 refl)
      (truths p (last_truth d) d (no_truth line) (λ e. spot (m + 1) (without_operand e)) (spot t) (spot b) home (fails line Kind)
      (λ e. expr_meaning s vars base call r line (without_operand e) ▷ does line test_truth) Next
      stop
      (second line (m + 1) b cr (expr_meaning s vars base call r line) (without_operand d) behind.1
      (λ y e k. run_r line (m + 1) y e k))
      (moved (spot t d) t b (Next d) at_end stop)))

  or_runs : (l r : PlainExpr) → Ran l → Ran r → (line a b : ℕ) (c : Progress)
      → CodeStandsAt code a (expr_code s vars (plain.Or l r) line a) b
      → To (spot a c) b (expr_meaning s vars base call (plain.Or l r) line c)
  or_runs l r run_l run_r line a b c h =
      let cl = expr_code s vars l line a in
      let m = a + length cl in
      let cr = expr_code s vars r line (m + 1) in
      let behind = stands_back code a b cl _ h in
      let t = m + 1 + length cr + 1 in
      let at_end : t ≡ b = joined_end (m + 1) b cr line behind.1 in
      then_to (spot a c) m b (expr_meaning s vars base call l line c) _ (run_l line a m c (stands_front code a b cl _ h))
      (λ d. on p (one p (frame m) fs d line (instr.Or t) _ behind.0 refl)
      (truths p (last_truth d) d (no_truth line) (spot t) (λ e. spot (m + 1) (without_operand e)) (spot b) home (fails line Kind) Next
      (λ e. expr_meaning s vars base call r line (without_operand e) ▷ does line test_truth)
      stop
      (moved (spot t d) t b (Next d) at_end stop)
      (second line (m + 1) b cr (expr_meaning s vars base call r line) (without_operand d) behind.1
      (λ y e k. run_r line (m + 1) y e k))))

  mutual
    pub expr_runs : (e : PlainExpr) (line a b : ℕ) (c : Progress) → CodeStandsAt code a (expr_code s vars e line a) b
        → To (spot a c) b (expr_meaning s vars base call e line c)
    expr_runs plain.Nothing line a b c h = acted line instr.None (push_value value.None) a b c h refl
    expr_runs plain.Yes line a b c h = acted line (instr.Bool true) (push_value (value.Bool true)) a b c h refl
    expr_runs plain.No line a b c h = acted line (instr.Bool false) (push_value (value.Bool false)) a b c h refl
    expr_runs (plain.Number n) line a b c h = acted line (instr.Int n) (push_value (value.Int n)) a b c h refl
    expr_runs (plain.Text t) line a b c h = acted line (instr.Text t) (push_value (value.Text t)) a b c h refl
    expr_runs plain.Object line a b c h = acted line instr.Object (on_state new_object_change) a b c h refl
    expr_runs (plain.Var x) line a b c h =
        acted line (instr.Get (var_number vars x)) (on_state (load_change (base + var_number vars x))) a b c h refl
    expr_runs (plain.Move x) line a b c h =
        acted line (instr.Take (var_number vars x)) (on_state (lift_change (base + var_number vars x))) a b c h refl
    expr_runs (plain.Field t k) line a b c h =
        pair_runs t k (expr_runs t) (expr_runs k) line instr.Read (on_state read_change) a b c h (λ n d. refl)
    expr_runs (plain.Remove t k) line a b c h =
        pair_runs t k (expr_runs t) (expr_runs k) line instr.Remove (on_state take_change) a b c h (λ n d. refl)
    expr_runs (plain.Binary op l r) line a b c h =
        pair_runs l r (expr_runs l) (expr_runs r) line (instr.Binary op) (on_state (binary_change op)) a b c h (λ n d. refl)
    expr_runs (plain.Neg e) line a b c h =
        single_runs e (expr_runs e) line (instr.Unary Neg) (on_state (unary_change Neg)) a b c h (λ n d. refl)
    expr_runs (plain.Not e) line a b c h =
        single_runs e (expr_runs e) line (instr.Unary Not) (on_state (unary_change Not)) a b c h (λ n d. refl)
    expr_runs (plain.And l r) line a b c h = and_runs l r (expr_runs l) (expr_runs r) line a b c h
    expr_runs (plain.Or l r) line a b c h = or_runs l r (expr_runs l) (expr_runs r) line a b c h
    expr_runs (plain.Call x es) line a b c h =
        call_runs (called_of s x.id) line es (args_code s vars es line a) (args_meaning s vars base call es line) a b c h
        (λ y k. args_runs es line a y c k)

    args_runs : (es : PlainArgs) (line a b : ℕ) (c : Progress) → CodeStandsAt code a (args_code s vars es line a) b
        → To (spot a c) b (args_meaning s vars base call es line c)
    args_runs no_args line a b c h = moved (spot a c) a b (Next c) h stop
    args_runs (arg e es) line a b c h =
        let ce = expr_code s vars e line a in
        then_to (spot a c) (a + length ce) b (expr_meaning s vars base call e line c) (args_meaning s vars base call es line)
        (expr_runs e line a (a + length ce) c (stands_front code a b ce _ h))
        (λ d. args_runs es line (a + length ce) b d (stands_back code a b ce _ h))

  -- a tick, and an expression
  begun : (e : PlainExpr) (line a b : ℕ) (c : Progress) → slice_get code a ≡ Some (on_line line instr.Tick)
      → CodeStandsAt code (a + 1) (expr_code s vars e line (a + 1)) b
      → To (spot a c) b (does line tick c ▷ expr_meaning s vars base call e line)
  begun e line a b c at h = ticked line a b (expr_meaning s vars base call e line) c at (λ d. expr_runs e line (a + 1) b d h)

  -- a tick, an expression, and an action
  begun_single : (e : PlainExpr) (line : ℕ) (i : Instr) (action : Progress → Did) (a b : ℕ) (c : Progress)
      → CodeStandsAt code a (on_line line instr.Tick ∷ (expr_code s vars e line (a + 1) ++ on_line line i ∷ [])) b
      → ((n : ℕ) (d : Progress) → act p line i (frame n) fs d ≡ acts line action (frame n) fs d)
      → To (spot a c) b ((does line tick c ▷ expr_meaning s vars base call e line) ▷ does line action)
  begun_single e line i action a b c h same =
      let ce = expr_code s vars e line (a + 1) in
      let m = a + 1 + length ce in
      then_to (spot a c) m b (does line tick c ▷ expr_meaning s vars base call e line) (does line action)
      (begun e line a m c h.0 (stands_front code (a + 1) b ce _ h.1))
      (λ d. acted line i action m b d (stands_back code (a + 1) b ce _ h.1) (same m d))

  -- what goes on by a return
  returns : (x : Config) (m b line : ℕ) (o : Flow) → slice_get code m ≡ Some (on_line line instr.Return) → To x m o → To x b (o ▷ Return)
  returns x m b line o at h = then_to x m b o Return h (λ d. one p (frame m) fs d line instr.Return (home d) at refl)

  store_runs : (t k e : PlainExpr) (line a b : ℕ) (c : Progress) → CodeStandsAt code a (stmt_code s vars (plain.Store line t k e) a) b
      → To (spot a c) b (stmt_meaning s vars base call (plain.Store line t k e) c)
  store_runs t k e line a b c h =
      let ct = expr_code s vars t line (a + 1) in
      let m = a + 1 + length ct in
      let ck = expr_code s vars k line m in
      let n = m + length ck in
      let ce = expr_code s vars e line n in
      let q = n + length ce in
      let behind_t = stands_back code (a + 1) b ct _ h.1 in
      let behind_k = stands_back code m b ck _ behind_t in
      then_to (spot a c) q b _ (does line (on_state write_change))
      (then_to (spot a c) n q _ (expr_meaning s vars base call e line)
      (then_to (spot a c) m n (does line tick c ▷ expr_meaning s vars base call t line) (expr_meaning s vars base call k line)
      (begun t line a m c h.0 (stands_front code (a + 1) b ct _ h.1))
      (λ d. expr_runs k line m n d (stands_front code m b ck _ behind_t)))
      (λ d. expr_runs e line n q d (stands_front code n b ce _ behind_k)))
      (λ d. acted line instr.Write (on_state write_change) q b d (stands_back code n b ce _ behind_k) refl)

  -- the branches of an `if`, after its test
  if_runs : (none : Bool) (line past b : ℕ) (cy co : List Placed) (on_yes on_no : Progress → Flow) (d : Progress)
      → CodeStandsAt code past (branches_code none line past cy co) b
      → ((y : ℕ) (e : Progress) → CodeStandsAt code (past + 1) cy y → To (spot (past + 1) e) y (on_yes e))
      → ((y : ℕ) (e : Progress) → CodeStandsAt code (past + 1 + length cy + 1) co y → To (spot (past + 1 + length cy + 1) e) y (on_no e))
      → (none ≡ true → (e : Progress) → on_no e ≡ Next e)
      → To (spot past d) b (by_truth (last_truth d) d (fails line Kind) (λ e. on_yes (without_operand e)) (λ e. on_no (without_operand e)))
  if_runs true line past b cy co on_yes on_no d h run_yes run_no quiet =
      let t = past + 1 + length cy in
      let stands : CodeStandsAt code (past + 1) cy b = h.1 in
      let at_end : t ≡ b = stands_end code (past + 1) b cy stands in
      on p (one p (frame past) fs d line (instr.Unless t) _ h.0 refl)
      (truths p (last_truth d) d (no_truth line) (λ e. spot (past + 1) (without_operand e)) (λ e. spot t (without_operand e))
      (spot b) home (fails line Kind) (λ e. on_yes (without_operand e)) (λ e. on_no (without_operand e))
      stop
      (run_yes b (without_operand d) stands)
      (moved (spot t (without_operand d)) t b (on_no (without_operand d)) at_end
      (subst (λ o. To (spot t (without_operand d)) t o) (sym (quiet refl (without_operand d))) stop)))
  if_runs false line past b cy co on_yes on_no d h run_yes run_no quiet =
      let m = past + 1 + length cy in
      let t = m + 1 in
      let e : t + length co ≡ b = stands_end code t b co (stands_back code (past + 1) b cy _ h.1).1 in
      let behind = stands_back code (past + 1) b cy _ h.1 in
      on p (one p (frame past) fs d line (instr.Unless t) _ h.0 refl)
      (truths p (last_truth d) d (no_truth line) (λ e. spot (past + 1) (without_operand e)) (λ e. spot t (without_operand e))
      (spot b) home (fails line Kind) (λ e. on_yes (without_operand e)) (λ e. on_no (without_operand e))
      stop
      (jumped (spot (past + 1) (without_operand d)) line m (t + length co) b (on_yes (without_operand d)) behind.0 e
      (run_yes m (without_operand d) (stands_front code (past + 1) b cy _ h.1)))
      (run_no b (without_operand d) behind.1))
    where
      jumped : (x : Config) (line m t b : ℕ) (o : Flow) → slice_get code m ≡ Some (on_line line (instr.Jump t)) → t ≡ b → To x m o
          → To x b o
      jumped x line m t b (Next c) at e h = on p h (one p (frame m) fs c line (instr.Jump t) (spot b c) at (ap (λ n. spot n c) e))
      jumped x line m t b (Return c) at e h = h
      jumped x line m t b (Fails c g) at e h = h

  -- the turns of a loop whose tick stands at top
  turns_run : (line top past last b : ℕ) (condition of_body : Progress → Flow)
      → slice_get code top ≡ Some (on_line line instr.Tick)
      → slice_get code past ≡ Some (on_line line (instr.Unless b))
      → slice_get code last ≡ Some (on_line line (instr.Jump top))
      → ((d : Progress) → To (spot (top + 1) d) past (condition d))
      → ((d : Progress) → To (spot (past + 1) d) last (of_body d))
      → ((d : Progress) → TicksWithin d.ticks (condition d))
      → ((d : Progress) → TicksWithin d.ticks (of_body d))
      → (k : ℕ) (c : Progress) → c.ticks < k → To (spot top c) b (turns k line condition of_body c)
  turns_run line top past last b condition of_body at_top at_past at_last run_condition run_body condition_within body_within zero c lt =
      absurd (omega (arith, lt))
  turns_run line top past last b condition of_body at_top at_past at_last run_condition run_body condition_within body_within (suc k) c lt =
      both_below p c.ticks (spot top c) (spot past) (spot b) home (does line tick c ▷ condition) _
      (below_then c.ticks (does line tick c) condition (tick_below line c) condition_within)
      (ticked line top past condition c at_top run_condition)
      (λ d fewer. on p (one p (frame past) fs d line (instr.Unless b) _ at_past refl)
      (truths p (last_truth d) d (no_truth line) (λ e. spot (past + 1) (without_operand e)) (λ e. spot b (without_operand e))
      (spot b) home (fails line Kind) (λ e. of_body (without_operand e) ▷ turns k line condition of_body)
      (λ e. Next (without_operand e))
      stop
      (both_within_to d.ticks (spot (past + 1) (without_operand d)) last b (of_body (without_operand d))
      (turns k line condition of_body) (body_within (without_operand d)) (run_body (without_operand d))
      (λ e le. on p (one p (frame last) fs e line (instr.Jump top) (spot top e) at_last refl)
      (turns_run line top past last b condition of_body at_top at_past at_last run_condition run_body condition_within body_within
      k e (omega (arith, le, fewer, lt)))))
      stop))
    where
      both_within_to : (t : ℕ) (x : Config) (m b : ℕ) (o : Flow) (f : Progress → Flow) → TicksWithin t o → To x m o
          → ((d : Progress) → d.ticks ≤ t → To (spot m d) b (f d)) → To x b (o ▷ f)
      both_within_to t x m b (Next d) f w h k = on p h (k d w)
      both_within_to t x m b (Return d) f w h k = h
      both_within_to t x m b (Fails d at) f w h k = h

  empty_block : (b : PlainBlock) → is_empty_block b ≡ true → (e : Progress) → block_meaning s vars base call b e ≡ Next e
  empty_block no_stmts h e = refl
  empty_block (stmt a b) h e = cc

  -- the code of a block does what the block means
  abbrev RanBlock : PlainBlock → Type 0
  RanBlock k =
      (a b : ℕ) (c : Progress) → CodeStandsAt code a (block_code s vars k a) b → To (spot a c) b (block_meaning s vars base call k c)

  if_statement : (e : PlainExpr) (first other : PlainBlock) → RanBlock first → RanBlock other → (line a b : ℕ) (c : Progress)
      → CodeStandsAt code a (stmt_code s vars (plain.If line e first other) a) b
      → To (spot a c) b (stmt_meaning s vars base call (plain.If line e first other) c)
  if_statement e first other run_first run_other line a b c h =
      let ce = expr_code s vars e line (a + 1) in
      let past = a + 1 + length ce in
      let cy = block_code s vars first (past + 1) in
      let co = block_code s vars other (past + 1 + length cy + 1) in
      then_to (spot a c) past b (does line tick c ▷ expr_meaning s vars base call e line) _
      (begun e line a past c h.0 (stands_front code (a + 1) b ce _ h.1))
      (λ d. if_runs (is_empty_block other) line past b cy co (block_meaning s vars base call first)
      (block_meaning s vars base call other) d (stands_back code (a + 1) b ce _ h.1)
      (λ y f k. run_first (past + 1) y f k) (λ y f k. run_other (past + 1 + length cy + 1) y f k) (empty_block other))

  while_statement : (e : PlainExpr) (k : PlainBlock) → RanBlock k → (line a b : ℕ) (c : Progress)
      → CodeStandsAt code a (stmt_code s vars (plain.While line e k) a) b
      → To (spot a c) b (stmt_meaning s vars base call (plain.While line e k) c)
  while_statement e k run line a b c h =
      let ce = expr_code s vars e line (a + 1 + 1) in
      let past = a + 1 + 1 + length ce in
      let ck = block_code s vars k (past + 1) in
      let last = past + 1 + length ck in
      let test_at : CodeStandsAt code (a + 1 + 1) (ce ++ round_code line (a + 1) past ck) b = h.1.1 in
      let behind = stands_back code (a + 1 + 1) b ce _ test_at in
      let jump_at = stands_back code (past + 1) b ck _ behind.1 in
      let at_end : last + 1 ≡ b = jump_at.1 in
      ticked line a b _ c h.0
      (λ d. turns_run line (a + 1) past last b (expr_meaning s vars base call e line) (block_meaning s vars base call k) h.1.0
      (subst (λ n. slice_get code past ≡ Some (on_line line (instr.Unless n))) at_end behind.0) jump_at.0
      (λ f. expr_runs e line (a + 1 + 1) past f (stands_front code (a + 1 + 1) b ce _ test_at))
      (λ f. run (past + 1) last f (stands_front code (past + 1) b ck _ behind.1))
      (expr_within s vars base call calls_within e line) (block_within s vars base call calls_within k)
      (suc d.ticks) d (omega arith))

  mutual
    pub statement_runs : (st : PlainStmt) (a b : ℕ) (c : Progress) → CodeStandsAt code a (stmt_code s vars st a) b
        → To (spot a c) b (stmt_meaning s vars base call st c)
    statement_runs (plain.Assign line x e) a b c h =
        begun_single e line (instr.Set (var_number vars x)) (to_state (put_down (base + var_number vars x))) a b c h (λ n d. refl)
    statement_runs (plain.Store line t k e) a b c h = store_runs t k e line a b c h
    statement_runs (plain.Drop line x) a b c h =
        ticked line a b _ c h.0 (λ d. acted line (instr.Drop (var_number vars x)) (on_state (unset_change (base + var_number vars x)))
        (a + 1) b d h.1 refl)
    statement_runs (plain.Return line None) a b c h =
        returns (spot a c) (a + 1 + 1) b line _ h.1.1.0
        (ticked line a (a + 1 + 1) (does line (push_value value.None)) c h.0
        (λ d. acted line instr.None (push_value value.None) (a + 1) (a + 1 + 1) d (h.1.0, refl) refl))
    statement_runs (plain.Return line (Some e)) a b c h =
        let ce = expr_code s vars e line (a + 1) in
        returns (spot a c) (a + 1 + length ce) b line _ (stands_back code (a + 1) b ce _ h.1).0
        (begun e line a (a + 1 + length ce) c h.0 (stands_front code (a + 1) b ce _ h.1))
    statement_runs (plain.Pass line) a b c h = acted line instr.Tick tick a b c h refl
    statement_runs (plain.Eval line e) a b c h = begun_single e line instr.Pop pop_value a b c h (λ n d. refl)
    statement_runs (plain.If line e first other) a b c h = if_statement e first other (block_runs first) (block_runs other) line a b c h
    statement_runs (plain.While line e k) a b c h = while_statement e k (block_runs k) line a b c h
    statement_runs (plain.When line cowns captures k) a b c h =
        let vs = map (var_number vars) (cown_names cowns) in
        let ws = map (var_number vars) (capture_names cowns captures) in
        let number = when_number s.tree line in
        ticked line a b _ c h.0 (λ d. acted line (instr.When number vs ws)
        (spawns_one number (slots_of s vars base call (cown_names cowns)) (slots_of s vars base call (capture_names cowns captures)))
        (a + 1) b d h.1 refl)

    pub block_runs : (k : PlainBlock) (a b : ℕ) (c : Progress) → CodeStandsAt code a (block_code s vars k a) b
        → To (spot a c) b (block_meaning s vars base call k c)
    block_runs no_stmts a b c h = moved (spot a c) a b (Next c) h stop
    block_runs (stmt st k) a b c h =
        let ca = stmt_code s vars st a in
        let m = a + length ca in
        then_to (spot a c) m b (stmt_meaning s vars base call st c) (block_meaning s vars base call k)
        (statement_runs st a m c (stands_front code a b ca _ h))
        (λ d. block_runs k m b d (stands_back code a b ca _ h))
