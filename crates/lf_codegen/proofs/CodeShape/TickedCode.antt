-- The code of a script takes a tick wherever it goes back.
use Rattle.std.proofs.Common.{◌≡◌, ℕ, zero, suc, ◌+◌, ◌-◌, ◌<◌, ◌≤◌, Bool, true, false, List, [], ◌∷◌, ◌++◌, length, map, Option, Some}
use Rattle.std.proofs.Common.{None, refl, sym, ap, ◌∙◌, subst, arith}
use Rattle.std.specs.Prelude.{slice_get}
use Rattle.lf_code.specs.declared.body.Placed.{Placed}
use Rattle.lf_code.specs.declared.instr.Instr.{Instr}
use Rattle.lf_code.specs.declared.instr.Instr.TheVariants as instr
use Rattle.lf_code.specs.declared.instr.Prefix.TheVariants.{Neg, Not}
use Rattle.lf_code.specs.CodeStep.{Program, code_at, on_line, body_end}
use Rattle.lf_code.specs.Ticked.{Ticked, IsTicked, target_of, instr_of}
use Rattle.lf_code.proofs.Ending.Reaching.{CodeStandsAt, stands_front, stands_back}
use Rattle.lf_parser.specs.declared.name.Name.{Name}
use Rattle.lf_parser.specs.Plain.{PlainExpr, PlainArgs, PlainStmt, PlainBlock, no_args, arg, no_stmts, stmt}
use Rattle.lf_parser.specs.Plain as plain
use Rattle.lf_codegen.specs.GeneratedCode.{program_of, expr_code, args_code, stmt_code, block_code, body_code, call_code, branches_code}
use Rattle.lf_codegen.specs.GeneratedCode.{round_code, joined_code, is_empty_block}
use Rattle.lf_codegen.specs.Mentions.{args_count}
use Rattle.lf_codegen.specs.declared.called.Called.{Called}
use Rattle.lf_codegen.specs.declared.called.Called.TheVariants.{Built, Question, Function}
use Rattle.lf_codegen.specs.Numbers.{PlainScript, called_of, asked_number, var_number, when_number, cown_names, capture_names, body_vars}
use Rattle.lf_codegen.specs.Numbers.{body_block}
use Rattle.lf_codegen.proofs.Following.Calls.{code_is, block_stands}

-- each of these instructions from an address on that goes back goes to a tick of the code
abbrev Backs : List Placed → ℕ → List Placed → Type 0
Backs code at [] = Unit {0}
Backs code at (i ∷ is) = ((a : ℕ) → target_of i.instr ≡ Some a → a ≤ at → instr_of (slice_get code a) ≡ Some instr.Tick)
    × Backs code (at + 1) is

found : (code : List Placed) (at k : ℕ) (xs : List Placed) (i : Placed) (a : ℕ) → Backs code at xs → slice_get xs k ≡ Some i
    → target_of i.instr ≡ Some a → a ≤ at + k → instr_of (slice_get code a) ≡ Some instr.Tick
found code at k [] i a h g t le = absurd cc
found code at zero (x ∷ xs) i a h g t le =
    let same : x ≡ i = cc in
    h.0 a (ap (λ j. target_of j.instr) same ∙ t) (omega (arith, le))
found code at (suc k) (x ∷ xs) i a h g t le = found code (at + 1) k xs i a h.1 g t (omega (arith, le))

module _ (code : List Placed) where
  joins : (at : ℕ) (xs ys : List Placed) → Backs code at xs → Backs code (at + length xs) ys → Backs code at (xs ++ ys)
  joins at [] ys h k = let e : at + 0 ≡ at = omega arith in subst (λ n. Backs code n ys) e k
  joins at (x ∷ xs) ys h k =
      let e : at + suc (length xs) ≡ at + 1 + length xs = omega arith in
      (h.0, joins (at + 1) xs ys h.1 (subst (λ n. Backs code n ys) e k))

  -- an instruction that goes nowhere, and one that goes further on
  here : (at line : ℕ) (i : Instr) → target_of i ≡ None → Backs code at (on_line line i ∷ [])
  here at line i e = ((λ a t le. absurd (cc)), tt)

  nowhere : (i : Instr) (at : ℕ) → target_of i ≡ None → (a : ℕ) → target_of i ≡ Some a → a ≤ at
      → instr_of (slice_get code a) ≡ Some instr.Tick
  nowhere i at e a t le = absurd cc

  ahead : (at b : ℕ) → at < b → (a : ℕ) → Some b ≡ Some a → a ≤ at → instr_of (slice_get code a) ≡ Some instr.Tick
  ahead at b lt a t le = let same : b ≡ a = cc in absurd (omega (arith, same, lt, le))

  joined_backs : (jump : ℕ → Instr) (line at : ℕ) (left right : List Placed) → ((n : ℕ) → target_of (jump n) ≡ Some n) → Backs code at left
      → Backs code (at + length left + 1) right → Backs code at (joined_code jump line at left right)
  joined_backs jump line at left right goes h k =
      joins at left _ h (
        (λ a t le. ahead (at + length left) (at + length left + 1 + length right + 1) (omega arith) a
            (sym (goes (at + length left + 1 + length right + 1)) ∙ t) le),
        joins (at + length left + 1) right _ k (here _ line instr.Test refl),
      )

  module _ (s : PlainScript) (vars : List Name) where
    call_backs : (w : Called) (line at : ℕ) (es : PlainArgs) (args_meaning : List Placed) → Backs code at args_meaning
        → Backs code at (call_code s vars w line es args_meaning)
    call_backs (Built name) line at es args_meaning h = joins at args_meaning _ h (here _ line (instr.Built name (args_count es)) refl)
    call_backs (Question name) line at es args_meaning h = here at line (instr.Ask name (asked_number vars es)) refl
    call_backs (Function body) line at es args_meaning h = joins at args_meaning _ h (here _ line (instr.Call body (args_count es)) refl)

    mutual
      expr_backs : (e : PlainExpr) (line at : ℕ) → Backs code at (expr_code s vars e line at)
      expr_backs plain.Nothing line at = here at line instr.None refl
      expr_backs plain.Yes line at = here at line (instr.Bool true) refl
      expr_backs plain.No line at = here at line (instr.Bool false) refl
      expr_backs (plain.Number n) line at = here at line (instr.Int n) refl
      expr_backs (plain.Text t) line at = here at line (instr.Text t) refl
      expr_backs plain.Object line at = here at line instr.Object refl
      expr_backs (plain.Var x) line at = here at line (instr.Get (var_number vars x)) refl
      expr_backs (plain.Field t k) line at =
          let m = at + length (expr_code s vars t line at) in
          joins at (expr_code s vars t line at) _ (expr_backs t line at)
          (joins m (expr_code s vars k line m) _ (expr_backs k line m) (here _ line instr.Read refl))
      expr_backs (plain.Move x) line at = here at line (instr.Take (var_number vars x)) refl
      expr_backs (plain.Remove t k) line at =
          let m = at + length (expr_code s vars t line at) in
          joins at (expr_code s vars t line at) _ (expr_backs t line at)
          (joins m (expr_code s vars k line m) _ (expr_backs k line m) (here _ line instr.Remove refl))
      expr_backs (plain.Neg e) line at = joins at (expr_code s vars e line at) _ (expr_backs e line at) (here _ line (instr.Unary Neg) refl)
      expr_backs (plain.Not e) line at = joins at (expr_code s vars e line at) _ (expr_backs e line at) (here _ line (instr.Unary Not) refl)
      expr_backs (plain.Binary op l r) line at =
          let m = at + length (expr_code s vars l line at) in
          joins at (expr_code s vars l line at) _ (expr_backs l line at)
          (joins m (expr_code s vars r line m) _ (expr_backs r line m) (here _ line (instr.Binary op) refl))
      expr_backs (plain.And l r) line at =
          let m = at + length (expr_code s vars l line at) + 1 in
          joined_backs instr.And line at (expr_code s vars l line at) (expr_code s vars r line m) (λ n. refl) (expr_backs l line at)
          (expr_backs r line m)
      expr_backs (plain.Or l r) line at =
          let m = at + length (expr_code s vars l line at) + 1 in
          joined_backs instr.Or line at (expr_code s vars l line at) (expr_code s vars r line m) (λ n. refl) (expr_backs l line at)
          (expr_backs r line m)
      expr_backs (plain.Call x es) line at = call_backs (called_of s x.id) line at es (args_code s vars es line at) (args_backs es line at)

      args_backs : (es : PlainArgs) (line at : ℕ) → Backs code at (args_code s vars es line at)
      args_backs no_args line at = tt
      args_backs (arg e es) line at =
          let m = at + length (expr_code s vars e line at) in
          joins at (expr_code s vars e line at) _ (expr_backs e line at) (args_backs es line m)

    tick_first : (at line : ℕ) (is : List Placed) → Backs code (at + 1) is → Backs code at (on_line line instr.Tick ∷ is)
    tick_first at line is h = (nowhere instr.Tick at refl, h)

    single : (e : PlainExpr) (line at : ℕ) (i : Instr) → target_of i ≡ None
        → Backs code at (on_line line instr.Tick ∷ (expr_code s vars e line (at + 1) ++ on_line line i ∷ []))
    single e line at i t = tick_first at line _
        (joins (at + 1) (expr_code s vars e line (at + 1)) _ (expr_backs e line (at + 1)) (here _ line i t))

    branches_backs : (none : Bool) (line past : ℕ) (cy co : List Placed) → Backs code (past + 1) cy
        → Backs code (past + 1 + length cy + 1) co → Backs code past (branches_code none line past cy co)
    branches_backs true line past cy co h k = (ahead past (past + 1 + length cy) (omega arith), h)
    branches_backs false line past cy co h k = (
      ahead past (past + 1 + length cy + 1) (omega arith),
      joins (past + 1) cy _ h (ahead (past + 1 + length cy) (past + 1 + length cy + 1 + length co) (omega arith), k),
    )

    round_backs : (line top past : ℕ) (ck : List Placed) → slice_get code top ≡ Some (on_line line instr.Tick) → Backs code (past + 1) ck
        → Backs code past (round_code line top past ck)
    round_backs line top past ck at_top h = (
      ahead past (past + 1 + length ck + 1) (omega arith),
      joins (past + 1) ck _ h (
        (λ a t le. let same : top ≡ a =
            cc in subst (λ n. instr_of (slice_get code n) ≡ Some instr.Tick) same (ap instr_of at_top)),
        tt,
      ),
    )

    if_backs : (none : Bool) (line past b : ℕ) (cy co : List Placed) → CodeStandsAt code past (branches_code none line past cy co) b
        → ((y : ℕ) → CodeStandsAt code (past + 1) cy y → Backs code (past + 1) cy)
        → ((y : ℕ) → CodeStandsAt code (past + 1 + length cy + 1) co y → Backs code (past + 1 + length cy + 1) co)
        → Backs code past (branches_code none line past cy co)
    if_backs true line past b cy co h run_first run_other = (ahead past (past + 1 + length cy) (omega arith), run_first b h.1)
    if_backs false line past b cy co h run_first run_other =
        branches_backs false line past cy co (run_first (past + 1 + length cy) (stands_front code (past + 1) b cy _ h.1))
        (run_other b (stands_back code (past + 1) b cy _ h.1).1)

    mutual
      stmt_backs : (st : PlainStmt) (at b : ℕ) → CodeStandsAt code at (stmt_code s vars st at) b → Backs code at (stmt_code s vars st at)
      stmt_backs (plain.Assign line x e) at b h = single e line at (instr.Set (var_number vars x)) refl
      stmt_backs (plain.Store line t k e) at b h =
          let m = at + 1 + length (expr_code s vars t line (at + 1)) in
          let n = m + length (expr_code s vars k line m) in
          tick_first at line _ (joins (at + 1) (expr_code s vars t line (at + 1)) _ (expr_backs t line (at + 1))
          (joins m (expr_code s vars k line m) _ (expr_backs k line m)
          (joins n (expr_code s vars e line n) _ (expr_backs e line n) (here _ line instr.Write refl))))
      stmt_backs (plain.Drop line x) at b h =
          tick_first at line (on_line line (instr.Drop (var_number vars x)) ∷ []) (here (at + 1) line (instr.Drop (var_number vars x)) refl)
      stmt_backs (plain.Return line None) at b h =
          tick_first at line (on_line line instr.None ∷ on_line line instr.Return ∷ [])
          (nowhere instr.None (at + 1) refl, here _ line instr.Return refl)
      stmt_backs (plain.Return line (Some e)) at b h = single e line at instr.Return refl
      stmt_backs (plain.Pass line) at b h = here at line instr.Tick refl
      stmt_backs (plain.Eval line e) at b h = single e line at instr.Pop refl
      stmt_backs (plain.If line e first other) at b h =
          let ce = expr_code s vars e line (at + 1) in
          let past = at + 1 + length ce in
          let cy = block_code s vars first (past + 1) in
          let co = block_code s vars other (past + 1 + length cy + 1) in
          let branches_at = stands_back code (at + 1) b ce _ h.1 in
          tick_first at line _ (joins (at + 1) ce _ (expr_backs e line (at + 1))
          (if_backs (is_empty_block other) line past b cy co branches_at (λ y k. block_backs first (past + 1) y k)
          (λ y k. block_backs other (past + 1 + length cy + 1) y k)))
      stmt_backs (plain.While line e k) at b h =
          let ce = expr_code s vars e line (at + 1 + 1) in
          let past = at + 1 + 1 + length ce in
          let ck = block_code s vars k (past + 1) in
          let behind = stands_back code (at + 1 + 1) b ce _ h.1.1 in
          tick_first at line (on_line line instr.Tick ∷ (ce ++ round_code line (at + 1) past ck))
          (tick_first (at + 1) line (ce ++ round_code line (at + 1) past ck)
          (joins (at + 1 + 1) ce (round_code line (at + 1) past ck) (expr_backs e line (at + 1 + 1))
          (round_backs line (at + 1) past ck h.1.0
          (block_backs k (past + 1) (past + 1 + length ck) (stands_front code (past + 1) b ck _ behind.1)))))
      stmt_backs (plain.When line cowns captures k) at b h =
          let i = instr.When (when_number s.tree line) (map (var_number vars) (cown_names cowns))
          (map (var_number vars) (capture_names cowns captures)) in
          tick_first at line (on_line line i ∷ []) (here (at + 1) line i refl)

      block_backs : (k : PlainBlock) (at b : ℕ) → CodeStandsAt code at (block_code s vars k at) b → Backs code at (block_code s vars k at)
      block_backs no_stmts at b h = tt
      block_backs (stmt st k) at b h =
          let ca = stmt_code s vars st at in
          joins at ca _ (stmt_backs st at (at + length ca) (stands_front code at b ca _ h))
          (block_backs k (at + length ca) b (stands_back code at b ca _ h))

body_backs : (s : PlainScript) (body : ℕ) → IsTicked (code_at (program_of s) body)
body_backs s body at a i get t le =
    let code = code_at (program_of s) body in
    let list = body_code s (body_vars s body) (body_block s body) in
    let ck = block_code s (body_vars s body) (body_block s body) 0 in
    let whole : Backs code 0 list =
    joins code 0 ck body_end (block_backs code s (body_vars s body) (body_block s body) 0 (0 + length ck) (block_stands s body))
    (nowhere code instr.None (0 + length ck) refl, here code _ 0 instr.Return refl) in
    let at_list : slice_get list at ≡ Some i = subst (λ c. slice_get c at ≡ Some i) (code_is s body) get in
    found code 0 at list i a whole at_list t (omega (arith, le))

pub is_ticked : (s : PlainScript) → Ticked (program_of s)
is_ticked s body = body_backs s body
