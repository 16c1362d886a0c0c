-- A question with more than one argument asks of no variable.
use Rattle.std.proofs.Common.{List, [], arith, length, map, refl, ◌≡◌, ◌≤◌, ◌∷◌}
use Rattle.lf_parser.specs.declared.expr.Expr.{Expr}
use Rattle.lf_parser.specs.declared.name.Name.{Name}
use Rattle.lf_parser.specs.Plain.{PlainArgs, PlainExpr, arg, args_of, plain_expr}
use Rattle.lf_parser.specs.Plain as plain
use Rattle.lf_codegen.specs.Numbers.{asked_number}

asked_two : (vars : List Name) (a b : PlainExpr) (es : PlainArgs) → 0 ≡ asked_number vars (arg a (arg b es))
asked_two vars plain.Nothing b es = refl
asked_two vars plain.Yes b es = refl
asked_two vars plain.No b es = refl
asked_two vars (plain.Number n) b es = refl
asked_two vars (plain.Text t) b es = refl
asked_two vars plain.Object b es = refl
asked_two vars (plain.Var x) b es = refl
asked_two vars (plain.Field t k) b es = refl
asked_two vars (plain.Move x) b es = refl
asked_two vars (plain.Remove t k) b es = refl
asked_two vars (plain.Neg a) b es = refl
asked_two vars (plain.Not a) b es = refl
asked_two vars (plain.Binary op l r) b es = refl
asked_two vars (plain.And l r) b es = refl
asked_two vars (plain.Or l r) b es = refl
asked_two vars (plain.Call x fs) b es = refl

pub asked_more : (vars : List Name) (es : List Expr) → 2 ≤ length es → 0 ≡ asked_number vars (args_of (map plain_expr es))
asked_more vars [] h = absurd (omega (arith, h))
asked_more vars (e ∷ []) h = absurd (omega (arith, h))
asked_more vars (e ∷ (f ∷ es)) h = asked_two vars (plain_expr e) (plain_expr f) (args_of (map plain_expr es))
