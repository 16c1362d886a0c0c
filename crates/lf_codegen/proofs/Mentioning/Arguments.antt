-- The arguments of a call, as a list and as plain data.
use Rattle.std.proofs.Common.{◌≡◌, suc, nat_eq, List, [], ◌∷◌, length, map, refl, ap, arith, rules}
use Rattle.lf_parser.specs.declared.expr.Expr.{Expr}
use Rattle.lf_parser.specs.Plain.{plain_expr, args_of}
use Rattle.lf_codegen.specs.Mentions.{args_count, are_one_variable}

pub count_of_args : (es : List Expr) → args_count (args_of (map plain_expr es)) ≡ length es
count_of_args [] = refl
count_of_args (e ∷ es) = ap suc (count_of_args es)

-- none or more than one
pub not_one : (es : List Expr) → ¬ (length es ≡ 1) → nat_eq (length es) 1 ≡ are_one_variable (args_of (map plain_expr es))
not_one [] h = refl
not_one (e ∷ []) h = absurd (h refl)
not_one (e ∷ (f ∷ es)) h = first_of (search (rules, arith), grind (arith))
