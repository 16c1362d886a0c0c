-- A function value that reads one level deeper.
use Rattle.std.specs.Prelude.{ℕ, ◌-◌, ◌<◌, Result, List}
use Rattle.std.specs.declared.alloc.Global.{Global}
use denote.Ref.{MutBor}
use Rattle.lf_lexer.specs.declared.tokens.Token.{Token}
use Rattle.lf_parser.specs.declared.expr.Expr.{Expr}
use Rattle.lf_parser.specs.declared.halt.Halt.{Halt}
use Rattle.lf_parser.specs.declared.expressions.Entry.{Entry}
use Rattle.lf_parser.specs.declared.expressions.Entry.TheVariants.{WholeExpr, OneUnary, OneNeg}
use Rattle.lf_parser.specs.Plain.{PlainExpr, plain_expr}
use Rattle.lf_parser.specs.Parsers.{Parser, Reads}
use Rattle.lf_parser.specs.ReadingFunctions.{Inner, expr, unary, neg}
use Rattle.lf_parser.specs.Limits.{part_fits, rules_at}

-- the rule that is asked for
abbrev pub entry_rule : Entry → Inner → Parser PlainExpr
entry_rule WholeExpr i = expr part_fits i
entry_rule OneUnary i = unary part_fits i
entry_rule OneNeg i = neg part_fits i

pub record ReadsDeeper (pre : Global → MutBor (List Token) → ℕ → Entry → Type 0)
    (post : Global → MutBor (List Token) → ℕ → Entry → Result Expr Halt → MutBor (List Token) → Type 0) (levels : ℕ) : Type 0 where
  pub callable : (alloc : Global) (old : MutBor (List Token)) (entry : Entry) → 0 < levels → pre alloc old (levels - 1) entry
  pub reads : (alloc : Global) (old new : MutBor (List Token)) (entry : Entry) (result : Result Expr Halt)
      → post alloc old (levels - 1) entry result new → 0 < levels
      → Reads plain_expr (entry_rule entry (rules_at (levels - 1)) old.now) result new.now
