-- The code of each form.
use Rattle.std.specs.Prelude.{ℕ, ◌+◌, Bool, true, false, List, [], ◌∷◌, ◌++◌, map, length, Option, Some, None}
use Rattle.lf_parser.specs.declared.name.Name.{Name}
use Rattle.lf_parser.specs.Plain.{PlainExpr, PlainArgs, PlainStmt, PlainBlock, no_args, arg, no_stmts, stmt}
use Rattle.lf_parser.specs.Plain as plain
use Rattle.lf_code.specs.declared.body.Body.{Body}
use Rattle.lf_code.specs.declared.body.Placed.{Placed}
use Rattle.lf_code.specs.declared.instr.Instr.{Instr}
use Rattle.lf_code.specs.declared.instr.Instr.TheVariants as instr
use Rattle.lf_code.specs.declared.instr.Prefix.TheVariants.{Neg, Not}
use Rattle.lf_code.specs.CodeStep.{Program, on_line, body_end}
use Rattle.lf_codegen.specs.Mentions.{args_count}
use Rattle.lf_codegen.specs.Frames.{distinct, variables}
use Rattle.lf_codegen.specs.declared.called.Called.{Called}
use Rattle.lf_codegen.specs.declared.called.Called.TheVariants.{Built, Question, Function}
use Rattle.lf_codegen.specs.Numbers.{PlainScript, NamedFrame, named_frames, var_number, called_of, asked_number, when_number, cown_names}
use Rattle.lf_codegen.specs.Numbers.{capture_names}

-- `and` and `or`: the first operand's code from an address, the jump over the second one's, and a test
abbrev pub joined_code : (ℕ → Instr) → ℕ → ℕ → List Placed → List Placed → List Placed
joined_code jump line at left right =
    left ++ on_line line (jump (at + length left + 1 + length right + 1)) ∷ (right ++ on_line line instr.Test ∷ [])

-- what follows an `if`'s test that ends before an address: without else, and with one
abbrev pub branches_code : Bool → ℕ → ℕ → List Placed → List Placed → List Placed
branches_code true line past body other = on_line line (instr.Unless (past + 1 + length body)) ∷ body
branches_code false line past body other =
    on_line line (instr.Unless (past + 1 + length body + 1)) ∷
    (body ++ on_line line (instr.Jump (past + 1 + length body + 1 + length other)) ∷ other)

-- what follows a loop's test that ends before an address, back to the loop's own tick
abbrev pub round_code : ℕ → ℕ → ℕ → List Placed → List Placed
round_code line top past body = on_line line (instr.Unless (past + 1 + length body + 1)) ∷ (body ++ on_line line (instr.Jump top) ∷ [])

abbrev pub is_empty_block : PlainBlock → Bool
is_empty_block no_stmts = true
is_empty_block (stmt s ss) = false

module _ (s : PlainScript) (vars : List Name) where
  -- a call, with the code of its arguments
  abbrev pub call_code : Called → ℕ → PlainArgs → List Placed → List Placed
  call_code (Built name) line es args_meaning = args_meaning ++ on_line line (instr.Built name (args_count es)) ∷ []
  call_code (Question name) line es args_meaning = on_line line (instr.Ask name (asked_number vars es)) ∷ []
  call_code (Function body) line es args_meaning = args_meaning ++ on_line line (instr.Call body (args_count es)) ∷ []

  abbrev mutual
    -- the code of an expression on a line, from an address on
    pub expr_code : PlainExpr → ℕ → ℕ → List Placed
    expr_code plain.Nothing line at = on_line line instr.None ∷ []
    expr_code plain.Yes line at = on_line line (instr.Bool true) ∷ []
    expr_code plain.No line at = on_line line (instr.Bool false) ∷ []
    expr_code (plain.Number n) line at = on_line line (instr.Int n) ∷ []
    expr_code (plain.Text t) line at = on_line line (instr.Text t) ∷ []
    expr_code plain.Object line at = on_line line instr.Object ∷ []
    expr_code (plain.Var x) line at = on_line line (instr.Get (var_number vars x)) ∷ []
    expr_code (plain.Field t k) line at =
        let ct = expr_code t line at in
        ct ++ (expr_code k line (at + length ct) ++ on_line line instr.Read ∷ [])
    expr_code (plain.Move x) line at = on_line line (instr.Take (var_number vars x)) ∷ []
    expr_code (plain.Remove t k) line at =
        let ct = expr_code t line at in
        ct ++ (expr_code k line (at + length ct) ++ on_line line instr.Remove ∷ [])
    expr_code (plain.Neg a) line at = expr_code a line at ++ on_line line (instr.Unary Neg) ∷ []
    expr_code (plain.Not a) line at = expr_code a line at ++ on_line line (instr.Unary Not) ∷ []
    expr_code (plain.Binary op l r) line at =
        let cl = expr_code l line at in
        cl ++ (expr_code r line (at + length cl) ++ on_line line (instr.Binary op) ∷ [])
    expr_code (plain.And l r) line at =
        let cl = expr_code l line at in
        joined_code instr.And line at cl (expr_code r line (at + length cl + 1))
    expr_code (plain.Or l r) line at =
        let cl = expr_code l line at in
        joined_code instr.Or line at cl (expr_code r line (at + length cl + 1))
    expr_code (plain.Call x es) line at = call_code (called_of s x.id) line es (args_code es line at)

    pub args_code : PlainArgs → ℕ → ℕ → List Placed
    args_code no_args line at = []
    args_code (arg e es) line at =
        let ce = expr_code e line at in
        ce ++ args_code es line (at + length ce)

  abbrev mutual
    pub stmt_code : PlainStmt → ℕ → List Placed
    stmt_code (plain.Assign line x e) at =
        on_line line instr.Tick ∷ (expr_code e line (at + 1) ++ on_line line (instr.Set (var_number vars x)) ∷ [])
    stmt_code (plain.Store line t k e) at =
        let ct = expr_code t line (at + 1) in
        let ck = expr_code k line (at + 1 + length ct) in
        on_line line instr.Tick ∷ (ct ++ (ck ++ (expr_code e line (at + 1 + length ct + length ck) ++ on_line line instr.Write ∷ [])))
    stmt_code (plain.Drop line x) at = on_line line instr.Tick ∷ on_line line (instr.Drop (var_number vars x)) ∷ []
    stmt_code (plain.Return line None) at = on_line line instr.Tick ∷ on_line line instr.None ∷ on_line line instr.Return ∷ []
    stmt_code (plain.Return line (Some e)) at = on_line line instr.Tick ∷ (expr_code e line (at + 1) ++ on_line line instr.Return ∷ [])
    stmt_code (plain.Pass line) at = on_line line instr.Tick ∷ []
    stmt_code (plain.Eval line e) at = on_line line instr.Tick ∷ (expr_code e line (at + 1) ++ on_line line instr.Pop ∷ [])
    stmt_code (plain.If line e body other) at =
        let ce = expr_code e line (at + 1) in
        let cy = block_code body (at + 1 + length ce + 1) in
        on_line line instr.Tick ∷ (ce ++ branches_code (is_empty_block other) line (at + 1 + length ce) cy
        (block_code other (at + 1 + length ce + 1 + length cy + 1)))
    stmt_code (plain.While line e body) at =
        let ce = expr_code e line (at + 1 + 1) in
        on_line line instr.Tick ∷ on_line line instr.Tick ∷
        (ce ++ round_code line (at + 1) (at + 1 + 1 + length ce) (block_code body (at + 1 + 1 + length ce + 1)))
    stmt_code (plain.When line cowns captures body) at =
        on_line line instr.Tick
        ∷ on_line line (instr.When (when_number s.tree line) (map (var_number vars) (cown_names cowns))
        (map (var_number vars) (capture_names cowns captures)))
        ∷ []

    pub block_code : PlainBlock → ℕ → List Placed
    block_code no_stmts at = []
    block_code (stmt a b) at =
        let ca = stmt_code a at in
        ca ++ block_code b (at + length ca)

  abbrev pub body_code : PlainBlock → List Placed
  body_code b = block_code b 0 ++ body_end

-- the code of one body
abbrev pub generated_body : PlainScript → NamedFrame → Body
generated_body s f = record {
  name = f.name;
  params = length (distinct f.frame.own);
  vars = length (variables f.frame);
  list = body_code s (variables f.frame) f.frame.body;
}

-- the code of a script
abbrev pub program_of : PlainScript → Program
program_of s = record { bodies = map (generated_body s) (named_frames s.tree); texts = s.texts }
