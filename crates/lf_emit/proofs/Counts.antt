-- Numbers of arguments, and of names.
use Rattle.std.proofs.Common.{◌≡◌, ℕ, suc, ◌+◌, ◌<◌, ◌≤◌, false, List, [], ◌∷◌, ◌++◌, length, map, drop, get_or, refl, sym, ap, arith, ◌∙◌}
use Rattle.std.proofs.Common.{drop-cons, append_assoc}
use Rattle.lf_parser.specs.declared.expr.Expr.{Expr}
use Rattle.lf_parser.specs.Plain.{plain_expr, plain_block, args_of}
use Rattle.lf_parser.specs.declared.stmt.Stmt.{Stmt}
use Rattle.lf_codegen.specs.GeneratedCode.{is_empty_block}
use Rattle.lf_codegen.specs.Mentions.{args_count}

pub args_are_counted : (es : List Expr) → args_count (args_of (map plain_expr es)) ≡ length es
args_are_counted [] = refl
args_are_counted (e ∷ es) = ap suc (args_are_counted es)

pub mapped_next : {A B : Type 0} (f : A → B) (xs : List A) (i : ℕ) (d : A) (old new : List B) → i < length xs
    → new ≡ old ++ f (get_or xs i d) ∷ [] → new ++ map f (drop (i + 1) xs) ≡ old ++ map f (drop i xs)
mapped_next f xs i d old new h e =
    let x = f (get_or xs i d) in
    let n : i + 1 ≡ suc i = omega arith in
    ap (λ l. l ++ map f (drop (i + 1) xs)) e
    ∙ append_assoc old (x ∷ []) (map f (drop (i + 1) xs))
    ∙ ap (λ n. old ++ x ∷ map f (drop n xs)) n
    ∙ ap (λ l. old ++ map f l) (sym (drop-cons xs i d h))

pub some_stmts : (xs : List Stmt) → 1 ≤ length xs → false ≡ is_empty_block (plain_block xs)
some_stmts [] h = absurd (omega (arith, h))
some_stmts (x ∷ xs) h = refl
