-- What a tree means, with no addresses and no jumps.
use Rattle.std.specs.Prelude.{ℕ, zero, suc, ◌+◌, ◌-◌, Bool, true, false, List, [], ◌∷◌, map, length, Option, Some, None}
use Rattle.lf_base.specs.declared.faults.Fault.TheVariants.{Kind, OutOfTicks}
use Rattle.lf_base.specs.declared.values.Value.TheVariants as value
use Rattle.lf_parser.specs.declared.name.Name.{Name}
use Rattle.lf_parser.specs.Plain.{PlainExpr, PlainArgs, PlainStmt, PlainBlock, no_args, arg, no_stmts, stmt}
use Rattle.lf_parser.specs.Plain as plain
use Rattle.lf_code.specs.declared.instr.Prefix.TheVariants.{Neg, Not}
use Rattle.lf_code.specs.Progress.{Progress, Did, Flow, Next, Return, Fails, ◌▷◌, fails, does, on_state, to_state, by_truth}
use Rattle.lf_codegen.specs.Mentions.{args_count}
use Rattle.lf_codegen.specs.declared.called.Called.{Called}
use Rattle.lf_codegen.specs.declared.called.Called.TheVariants.{Built, Question, Function}
use Rattle.lf_codegen.specs.Numbers.{PlainScript, var_number, called_of, asked_number, when_number, cown_names, capture_names, body_vars}
use Rattle.lf_codegen.specs.Numbers.{body_block}
use Rattle.lf_base.specs.HeapCalls.{lift_change, load_change, new_object_change, read_change, take_change, unset_change, write_change}
use Rattle.lf_base.specs.Operands.{put_down}
use Rattle.lf_code.specs.Actions.{base_of, binary_change, enter, last_truth, leave, no_frame_left, pop_value, push_value, test_truth, tick}
use Rattle.lf_code.specs.Actions.{unary_change, without_operand}
use Rattle.lf_code.specs.Prints.{built}
use Rattle.lf_code.specs.Asks.{ask_change}
use Rattle.lf_code.specs.Spawning.{spawns_one}

-- how a call of a body with so many arguments goes, on a line, from the course with these as last operands
abbrev pub Callee : Type 0
Callee = ℕ → ℕ → ℕ → Progress → Flow

-- a test and turns of a body, at most so many
abbrev pub turns : ℕ → ℕ → (Progress → Flow) → (Progress → Flow) → Progress → Flow
turns zero line condition body c = fails line OutOfTicks c
turns (suc k) line condition body c =
    (does line tick c ▷ condition) ▷ (λ d. by_truth (last_truth d) d (fails line Kind)
    (λ e. body (without_operand e) ▷ turns k line condition body) (λ e. Next (without_operand e)))

module _ (s : PlainScript) (vars : List Name) (base : ℕ) (call : Callee) where
  -- the slot of a variable
  abbrev pub slot_of : Name → ℕ
  slot_of x = base + var_number vars x

  abbrev pub slots_of : List Name → List ℕ
  slots_of xs = map (λ v. base + v) (map (var_number vars) xs)

  -- a call, after its arguments
  abbrev pub call_meaning : Called → ℕ → PlainArgs → (Progress → Flow) → Progress → Flow
  call_meaning (Built name) line es args_meaning c = args_meaning c ▷ does line (built s.texts name (args_count es))
  call_meaning (Question name) line es args_meaning c = does line (on_state (ask_change name (base + asked_number vars es))) c
  call_meaning (Function body) line es args_meaning c = args_meaning c ▷ call line body (args_count es)

  abbrev mutual
    -- an expression on a line leaves one operand
    pub expr_meaning : PlainExpr → ℕ → Progress → Flow
    expr_meaning plain.Nothing line c = does line (push_value value.None) c
    expr_meaning plain.Yes line c = does line (push_value (value.Bool true)) c
    expr_meaning plain.No line c = does line (push_value (value.Bool false)) c
    expr_meaning (plain.Number n) line c = does line (push_value (value.Int n)) c
    expr_meaning (plain.Text t) line c = does line (push_value (value.Text t)) c
    expr_meaning plain.Object line c = does line (on_state new_object_change) c
    expr_meaning (plain.Var x) line c = does line (on_state (load_change (slot_of x))) c
    expr_meaning (plain.Field t k) line c = (expr_meaning t line c ▷ expr_meaning k line) ▷ does line (on_state read_change)
    expr_meaning (plain.Move x) line c = does line (on_state (lift_change (slot_of x))) c
    expr_meaning (plain.Remove t k) line c = (expr_meaning t line c ▷ expr_meaning k line) ▷ does line (on_state take_change)
    expr_meaning (plain.Neg a) line c = expr_meaning a line c ▷ does line (on_state (unary_change Neg))
    expr_meaning (plain.Not a) line c = expr_meaning a line c ▷ does line (on_state (unary_change Not))
    expr_meaning (plain.Binary op l r) line c = (expr_meaning l line c ▷ expr_meaning r line) ▷ does line (on_state (binary_change op))
    expr_meaning (plain.And l r) line c =
        expr_meaning l line c ▷ (λ d. by_truth (last_truth d) d (fails line Kind)
        (λ e. expr_meaning r line (without_operand e) ▷ does line test_truth) Next)
    expr_meaning (plain.Or l r) line c =
        expr_meaning l line c ▷ (λ d. by_truth (last_truth d) d (fails line Kind) Next
        (λ e. expr_meaning r line (without_operand e) ▷ does line test_truth))
    expr_meaning (plain.Call x es) line c = call_meaning (called_of s x.id) line es (args_meaning es line) c

    pub args_meaning : PlainArgs → ℕ → Progress → Flow
    args_meaning no_args line c = Next c
    args_meaning (arg e es) line c = expr_meaning e line c ▷ args_meaning es line

  abbrev mutual
    pub stmt_meaning : PlainStmt → Progress → Flow
    stmt_meaning (plain.Assign line x e) c = (does line tick c ▷ expr_meaning e line) ▷ does line (to_state (put_down (slot_of x)))
    stmt_meaning (plain.Store line t k e) c =
        (((does line tick c ▷ expr_meaning t line) ▷ expr_meaning k line) ▷ expr_meaning e line) ▷ does line (on_state write_change)
    stmt_meaning (plain.Drop line x) c = does line tick c ▷ does line (on_state (unset_change (slot_of x)))
    stmt_meaning (plain.Return line None) c = (does line tick c ▷ does line (push_value value.None)) ▷ Return
    stmt_meaning (plain.Return line (Some e)) c = (does line tick c ▷ expr_meaning e line) ▷ Return
    stmt_meaning (plain.Pass line) c = does line tick c
    stmt_meaning (plain.Eval line e) c = (does line tick c ▷ expr_meaning e line) ▷ does line pop_value
    stmt_meaning (plain.If line e body other) c =
        (does line tick c ▷ expr_meaning e line) ▷ (λ d. by_truth (last_truth d) d (fails line Kind)
        (λ e. block_meaning body (without_operand e)) (λ e. block_meaning other (without_operand e)))
    stmt_meaning (plain.While line e body) c =
        does line tick c ▷ (λ d. turns (suc d.ticks) line (expr_meaning e line) (block_meaning body) d)
    stmt_meaning (plain.When line cowns captures body) c =
        does line tick c ▷ does line
        (spawns_one (when_number s.tree line) (slots_of (cown_names cowns)) (slots_of (capture_names cowns captures)))

    pub block_meaning : PlainBlock → Progress → Flow
    block_meaning no_stmts c = Next c
    block_meaning (stmt a b) c = stmt_meaning a c ▷ block_meaning b

-- the frame of a body ends: without a `return` it leaves None
abbrev pub frame_end : ℕ → Flow → Flow
frame_end base (Next c) = does 0 (push_value value.None) c ▷ (λ d. Next (leave base d))
frame_end base (Return c) = Next (leave base c)
frame_end base (Fails c at) = Fails c at

-- a call where so many more frames may stand
abbrev pub calls_within_frames : PlainScript → ℕ → Callee
calls_within_frames s zero line body count c = does line no_frame_left c
calls_within_frames s (suc k) line body count c =
    does line (enter (length (body_vars s body) - count)) c
    ▷ (λ d. frame_end (base_of count c)
    (block_meaning s (body_vars s body) (base_of count c) (calls_within_frames s k) (body_block s body) d))
