-- The code of the statements with blocks.
use Rattle.std.proofs.Common.{◌≡◌, ℕ, ◌+◌, Bool, true, false, List, [], ◌∷◌, ◌++◌, length, Result, Ok, Err, OnOk, sym, ap, ◌∙◌}
use Rattle.lf_parser.specs.declared.name.Name.{Name}
use Rattle.lf_parser.specs.Plain.{PlainExpr, PlainStmt, PlainBlock, stmt_step, plain_expr, plain_stmt, plain_block}
use Rattle.lf_parser.specs.Plain as plain
use Rattle.lf_parser.specs.declared.expr.Expr.{Expr}
use Rattle.lf_parser.specs.declared.stmt.Stmt.{Stmt}
use Rattle.lf_parser.specs.declared.stmt.Stmt.TheVariants as a_stmt
use Rattle.lf_parser.specs.declared.stmt.Stmt.TheVariants.{rolls-If, rolls-While}
use Rattle.lf_parser.specs.declared.stmt.Stmt.TheFolds.{fold-roll-Stmt}
use Rattle.lf_parser.specs.declared.stmt.Stmt.TheOpen.{Stmt-F}
use Rattle.lf_code.specs.declared.body.Placed.{Placed}
use Rattle.lf_code.specs.declared.instr.Instr.TheVariants as instr
use Rattle.lf_code.specs.CodeStep.{on_line}
use Rattle.lf_codegen.specs.Numbers.{PlainScript}
use Rattle.lf_codegen.specs.GeneratedCode.{branches_code, round_code, is_empty_block, expr_code, stmt_code, block_code}
use Rattle.lf_emit.specs.Left.{patched}
use Rattle.lf_emit.proofs.Pieces.{seq_emits, if_alone, if_both, go_round}

pub plain_if : (line : ℕ) (test : Expr) (body other : List Stmt)
    → plain.If line (plain_expr test) (plain_block body) (plain_block other) ≡ plain_stmt (a_stmt.If line test body other)
plain_if line test body other =
    sym (ap plain_stmt (sym (rolls-If line test body other)) ∙ fold-roll-Stmt PlainStmt stmt_step (Stmt-F.If line test body other))

pub plain_while : (line : ℕ) (test : Expr) (body : List Stmt)
    → plain.While line (plain_expr test) (plain_block body) ≡ plain_stmt (a_stmt.While line test body)
plain_while line test body = sym
    (ap plain_stmt (sym (rolls-While line test body)) ∙ fold-roll-Stmt PlainStmt stmt_step (Stmt-F.While line test body))

pub on_ok : {T E A B : Type 0} (r : Result T E) → (A → B) → OnOk r A → OnOk r B
on_ok (Ok t) f h = f h
on_ok (Err e) f h = tt

module _ (s : PlainScript) (vars : List Name) (line : ℕ) (t : PlainExpr) (y n : PlainBlock) (a b c d : List Placed) (at : ℕ)
    (opened : c ≡ b ++ on_line line (instr.Unless 0) ∷ []) (is_at : at ≡ length b)
    (has_body : d ≡ c ++ block_code s vars y (length c)) where
  abbrev test : ℕ → List Placed
  test m = expr_code s vars t line m

  -- with the branches_code of a test as they are where the second one is there or not
  abbrev whole : Bool → List Placed
  whole k =
      let past = length a + 1 + length (test (length a + 1)) in
      a ++ on_line line instr.Tick ∷ (test (length a + 1)
      ++ branches_code k line past (block_code s vars y (past + 1))
      (block_code s vars n (past + 1 + length (block_code s vars y (past + 1)) + 1)))

  pub if_alone_code : (e : List Placed) → b ≡ a ++ on_line line instr.Tick ∷ expr_code s vars t line (length a + 1)
      → true ≡ is_empty_block n
      → e ≡ patched at line (instr.Unless (length d)) d → e ≡ a ++ stmt_code s vars (plain.If line t y n) (length a)
  if_alone_code e tested none h =
      if_alone line test a b tested (instr.Unless 0) (block_code s vars y) c d e at opened is_at has_body (block_code s vars n) h
      ∙ ap whole none

  pub if_both_code : (e x z : List Placed) (skip : ℕ) → b ≡ a ++ on_line line instr.Tick ∷ expr_code s vars t line (length a + 1)
      → false ≡ is_empty_block n
      → e ≡ patched at line (instr.Unless (length d + 1)) (d ++ on_line line (instr.Jump 0) ∷ []) → skip ≡ length d
      → x ≡ e ++ block_code s vars n (length e) → z ≡ patched skip line (instr.Jump (length x)) x
      → z ≡ a ++ stmt_code s vars (plain.If line t y n) (length a)
  if_both_code e x z skip tested some h is_skip hx hz =
      if_both line test a b tested (instr.Unless 0) (block_code s vars y) c d e at opened is_at has_body (instr.Jump 0)
      (block_code s vars n) skip x z h is_skip hx hz
      ∙ ap whole some

  pub while_code : (o e : List Placed) (top : ℕ) → o ≡ a ++ on_line line instr.Tick ∷ [] → top ≡ length o
      → b ≡ o ++ on_line line instr.Tick ∷ expr_code s vars t line (length o + 1)
      → e ≡ patched at line (instr.Unless (length d + 1)) (d ++ on_line line (instr.Jump top) ∷ [])
      → e ≡ a ++ stmt_code s vars (plain.While line t y) (length a)
  while_code o e top begun is_top tested h =
      seq_emits (λ m. on_line line instr.Tick ∷ [])
      (λ m. on_line line instr.Tick ∷
      (test (m + 1) ++ round_code line m (m + 1 + length (test (m + 1)))
      (block_code s vars y (m + 1 + length (test (m + 1)) + 1)))) a o e begun
      (go_round line test o b tested (instr.Unless 0) (block_code s vars y) c d e at opened is_at has_body top h
      ∙ ap (λ k. o ++ on_line line instr.Tick ∷
      (test (length o + 1) ++ round_code line k (length o + 1 + length (test (length o + 1)))
      (block_code s vars y (length o + 1 + length (test (length o + 1)) + 1)))) is_top)
