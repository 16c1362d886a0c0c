-- No piece of a script gives ticks back.
use Rattle.std.proofs.Common.{◌≡◌, ℕ, zero, suc, ◌+◌, ◌-◌, ◌<◌, ◌≤◌, Bool, true, false, List, [], ◌∷◌, length, Option, Some, None, refl}
use Rattle.std.proofs.Common.{sym, ap, ◌∙◌, subst, arith, cond}
use Rattle.std.specs.Prelude.{leb}
use Rattle.lf_base.specs.declared.behaviours.Spawn.{Spawn}
use Rattle.lf_base.specs.declared.faults.Fault.{Fault}
use Rattle.lf_base.specs.declared.faults.Fault.TheVariants.{Kind, OutOfTicks, OutputFull}
use Rattle.lf_base.specs.declared.values.Value.TheVariants as value
use Rattle.lf_base.specs.PlainState.{State}
use Rattle.lf_code.specs.declared.instr.BuiltName.{BuiltName}
use Rattle.lf_code.specs.declared.instr.BuiltName.TheVariants as built_name
use Rattle.lf_code.specs.declared.instr.Prefix.TheVariants.{Neg, Not}
use Rattle.lf_code.specs.Progress.{Progress, Did, Does, Faulted, Flow, Next, Return, Fails, ◌▷◌, fails, flow_of, does, did_change, on_state}
use Rattle.lf_code.specs.Progress.{to_state, by_truth}
use Rattle.lf_code.proofs.Ending.ActionTicks.{no_frame_left_by_within, TicksWithin, TicksBelow, on_state_within, to_state_within}
use Rattle.lf_code.proofs.Ending.ActionTicks.{tick_below}
use Rattle.lf_code.proofs.Ending.ActionTicks.{tick_within, enter_by_within, test_within, spawn_within, built_within}
use Rattle.lf_parser.specs.Plain.{PlainExpr, PlainArgs, PlainStmt, PlainBlock, no_args, arg, no_stmts, stmt}
use Rattle.lf_parser.specs.Plain as plain
use Rattle.lf_parser.specs.declared.name.Name.{Name}
use Rattle.lf_codegen.specs.Meaning.{Callee, turns, slots_of, call_meaning, expr_meaning, args_meaning, stmt_meaning, block_meaning}
use Rattle.lf_codegen.specs.Meaning.{frame_end, calls_within_frames}
use Rattle.lf_codegen.specs.declared.called.Called.{Called}
use Rattle.lf_codegen.specs.declared.called.Called.TheVariants.{Built, Question, Function}
use Rattle.lf_codegen.specs.Numbers.{PlainScript, called_of, asked_number, var_number, when_number, cown_names, capture_names, body_vars}
use Rattle.lf_codegen.specs.Numbers.{body_block}
use Rattle.lf_base.specs.HeapCalls.{Changed, Done, Refused, dissolve_change, lift_change, load_change, merge_change, new_cown_change}
use Rattle.lf_base.specs.HeapCalls.{new_object_change, new_region_change, read_change, take_change, unset_change, write_change}
use Rattle.lf_base.specs.Operands.{popped, pushed, put_down}
use Rattle.lf_code.specs.Actions.{base_of, binary_change, enter, enter_by, last_truth, leave, no_frame_left, no_frame_left_by, operands}
use Rattle.lf_code.specs.Actions.{pop_value, pops, push_value, test_by, test_truth, tick, tick_by, unary_change, without_operand}
use Rattle.lf_base.specs.HeapCalls.{frozen}
use Rattle.lf_code.specs.Prints.{built, bytes_of, print_line, with_line}
use Rattle.lf_code.specs.Asks.{ask_change}
use Rattle.lf_code.specs.Spawning.{spawn_by, spawn_of, spawns_one, when_fault}

more : (t u : ℕ) (o : Flow) → t ≤ u → TicksWithin t o → TicksWithin u o
more t u (Next c) le h = omega (arith, le, h)
more t u (Return c) le h = omega (arith, le, h)
more t u (Fails c at) le h = tt

pub both_within : (t : ℕ) (o : Flow) (f : Progress → Flow) → TicksWithin t o → ((d : Progress) → TicksWithin d.ticks (f d))
    → TicksWithin t (o ▷ f)
both_within t (Next c) f h k = more c.ticks t (f c) h (k c)
both_within t (Return c) f h k = h
both_within t (Fails c at) f h k = tt

less : (t u : ℕ) (o : Flow) → t < u → TicksWithin t o → TicksBelow u o
less t u (Next c) le h = omega (arith, le, h)
less t u (Return c) le h = tt
less t u (Fails c at) le h = tt

pub below_then : (t : ℕ) (o : Flow) (f : Progress → Flow) → TicksBelow t o → ((d : Progress) → TicksWithin d.ticks (f d))
    → TicksBelow t (o ▷ f)
below_then t (Next c) f h k = less c.ticks t (f c) h (k c)
below_then t (Return c) f h k = tt
below_then t (Fails c at) f h k = tt

truth_within : (w : Option Bool) (c : Progress) (neither holds lacks : Progress → Flow) → TicksWithin c.ticks (neither c)
    → TicksWithin c.ticks (holds c)
    → TicksWithin c.ticks (lacks c) → TicksWithin c.ticks (by_truth w c neither holds lacks)
truth_within None c neither holds lacks a b d = a
truth_within (Some true) c neither holds lacks a b d = b
truth_within (Some false) c neither holds lacks a b d = d

pub turns_within : (k line : ℕ) (condition body : Progress → Flow) → ((d : Progress) → TicksWithin d.ticks (condition d))
    → ((d : Progress) → TicksWithin d.ticks (body d)) → (c : Progress) → TicksWithin c.ticks (turns k line condition body c)
turns_within zero line condition body hc hb c = tt
turns_within (suc k) line condition body hc hb c =
    both_within c.ticks (does line tick c ▷ condition) _ (both_within c.ticks (does line tick c) condition (tick_within line c) hc)
    (λ d. truth_within (last_truth d) d (fails line Kind) (λ e. body (without_operand e) ▷ turns k line condition body)
    (λ e. Next (without_operand e)) tt
    (both_within d.ticks (body (without_operand d)) (turns k line condition body) (hb (without_operand d))
    (turns_within k line condition body hc hb))
    (omega arith))

abbrev pub CallsWithin : Callee → Type 0
CallsWithin call = (line body count : ℕ) (c : Progress) → TicksWithin c.ticks (call line body count c)

module _ (s : PlainScript) (vars : List Name) (base : ℕ) (call : Callee) (hcall : CallsWithin call) where
  call_within : (w : Called) (line : ℕ) (es : PlainArgs) (f : Progress → Flow) (c : Progress) → TicksWithin c.ticks (f c)
      → TicksWithin c.ticks (call_meaning s vars base call w line es f c)
  call_within (Built name) line es f c h = both_within c.ticks (f c) _ h (λ d. built_within s.texts name _ line d)
  call_within (Question name) line es f c h = on_state_within line (ask_change name (base + asked_number vars es)) c
  call_within (Function body) line es f c h = both_within c.ticks (f c) _ h (λ d. hcall line body _ d)

  mutual
    pub expr_within : (e : PlainExpr) (line : ℕ) (c : Progress) → TicksWithin c.ticks (expr_meaning s vars base call e line c)
    expr_within plain.Nothing line c = to_state_within line (pushed (Some value.None)) c
    expr_within plain.Yes line c = to_state_within line (pushed (Some (value.Bool true))) c
    expr_within plain.No line c = to_state_within line (pushed (Some (value.Bool false))) c
    expr_within (plain.Number n) line c = to_state_within line (pushed (Some (value.Int n))) c
    expr_within (plain.Text t) line c = to_state_within line (pushed (Some (value.Text t))) c
    expr_within plain.Object line c = on_state_within line new_object_change c
    expr_within (plain.Var x) line c = on_state_within line (load_change (base + var_number vars x)) c
    expr_within (plain.Field t k) line c =
        both_within c.ticks _ _ (both_within c.ticks _ _ (expr_within t line c) (λ d. expr_within k line d))
        (λ d. on_state_within line read_change d)
    expr_within (plain.Move x) line c = on_state_within line (lift_change (base + var_number vars x)) c
    expr_within (plain.Remove t k) line c =
        both_within c.ticks _ _ (both_within c.ticks _ _ (expr_within t line c) (λ d. expr_within k line d))
        (λ d. on_state_within line take_change d)
    expr_within (plain.Neg a) line c = both_within c.ticks _ _ (expr_within a line c) (λ d. on_state_within line (unary_change Neg) d)
    expr_within (plain.Not a) line c = both_within c.ticks _ _ (expr_within a line c) (λ d. on_state_within line (unary_change Not) d)
    expr_within (plain.Binary op l r) line c =
        both_within c.ticks _ _ (both_within c.ticks _ _ (expr_within l line c) (λ d. expr_within r line d))
        (λ d. on_state_within line (binary_change op) d)
    expr_within (plain.And l r) line c =
        both_within c.ticks _ _ (expr_within l line c) (λ d. truth_within (last_truth d) d (fails line Kind) _ Next tt
        (both_within d.ticks _ (does line test_truth) (expr_within r line (without_operand d)) (test_within line)) (omega arith))
    expr_within (plain.Or l r) line c =
        both_within c.ticks _ _ (expr_within l line c) (λ d. truth_within (last_truth d) d (fails line Kind) Next _ tt (omega arith)
        (both_within d.ticks _ (does line test_truth) (expr_within r line (without_operand d)) (test_within line)))
    expr_within (plain.Call x es) line c =
        call_within (called_of s x.id) line es (args_meaning s vars base call es line) c (args_within es line c)

    pub args_within : (es : PlainArgs) (line : ℕ) (c : Progress) → TicksWithin c.ticks (args_meaning s vars base call es line c)
    args_within no_args line c = omega arith
    args_within (arg e es) line c = both_within c.ticks _ _ (expr_within e line c) (λ d. args_within es line d)

  begun : (e : PlainExpr) (line : ℕ) (c : Progress) → TicksWithin c.ticks (does line tick c ▷ expr_meaning s vars base call e line)
  begun e line c = both_within c.ticks _ _ (tick_within line c) (λ d. expr_within e line d)

  mutual
    pub statement_within : (st : PlainStmt) (c : Progress) → TicksWithin c.ticks (stmt_meaning s vars base call st c)
    statement_within (plain.Assign line x e) c =
        both_within c.ticks _ _ (begun e line c) (λ d. to_state_within line (put_down (base + var_number vars x)) d)
    statement_within (plain.Store line t k e) c =
        both_within c.ticks _ _ (both_within c.ticks _ _ (both_within c.ticks _ _ (begun t line c) (λ d. expr_within k line d))
        (λ d. expr_within e line d)) (λ d. on_state_within line write_change d)
    statement_within (plain.Drop line x) c =
        both_within c.ticks _ _ (tick_within line c) (λ d. on_state_within line (unset_change (base + var_number vars x)) d)
    statement_within (plain.Return line None) c =
        both_within c.ticks _ Return (both_within c.ticks _ _ (tick_within line c) (λ d. to_state_within line (pushed (Some value.None)) d))
        (λ d. omega arith)
    statement_within (plain.Return line (Some e)) c = both_within c.ticks _ Return (begun e line c) (λ d. omega arith)
    statement_within (plain.Pass line) c = tick_within line c
    statement_within (plain.Eval line e) c = both_within c.ticks _ _ (begun e line c) (λ d. to_state_within line popped d)
    statement_within (plain.If line e body other) c =
        both_within c.ticks _ _ (begun e line c)
        (λ d. truth_within (last_truth d) d (fails line Kind) _ _ tt (block_within body (without_operand d))
        (block_within other (without_operand d)))
    statement_within (plain.While line e body) c =
        both_within c.ticks _ _ (tick_within line c) (λ d. turns_within (suc d.ticks) line _ _ (expr_within e line) (block_within body) d)
    statement_within (plain.When line cowns captures body) c = both_within c.ticks _ _ (tick_within line c) (λ d. spawn_within _ line d _)

    pub block_within : (b : PlainBlock) (c : Progress) → TicksWithin c.ticks (block_meaning s vars base call b c)
    block_within no_stmts c = omega arith
    block_within (stmt a b) c = both_within c.ticks _ _ (statement_within a c) (λ d. block_within b d)

frame_within : (t base : ℕ) (o : Flow) → TicksWithin t o → TicksWithin t (frame_end base o)
frame_within t base (Next c) h = h
frame_within t base (Return c) h = h
frame_within t base (Fails c at) h = tt

pub calls_within : (s : PlainScript) (k : ℕ) → CallsWithin (calls_within_frames s k)
calls_within s zero line body count c = no_frame_left_by_within line c.ticks c
calls_within s (suc k) line body count c =
    both_within c.ticks _ _ (enter_by_within line c.ticks _ c refl)
    (λ d. frame_within d.ticks (base_of count c) _
    (block_within s (body_vars s body) (base_of count c) (calls_within_frames s k) (calls_within s k) (body_block s body) d))
