-- An expression as what it mentions itself, and its parts.
use Rattle.std.specs.Prelude.{List, [], ◌∷◌, ◌++◌, map}
use Rattle.std.specs.Borrow.{Bor}
use Rattle.lf_parser.specs.declared.expr.Expr.{Expr}
use Rattle.lf_parser.specs.Plain.{PlainExpr, PlainArgs, no_args, arg, plain_expr}
use Rattle.lf_parser.specs.Plain as plain
use Rattle.lf_codegen.specs.declared.mention.Mention.{Mention}
use Rattle.lf_codegen.specs.declared.mention.Mention.TheVariants.{Use, Call}
use Rattle.lf_codegen.specs.Mentions.{args_count, are_one_variable}

-- what it mentions, without its parts
abbrev pub own_mentions : PlainExpr → List Mention
own_mentions (plain.Var x) = Use x ∷ []
own_mentions (plain.Move x) = Use x ∷ []
own_mentions (plain.Call x es) = Call x (args_count es) (are_one_variable es) ∷ []
own_mentions _ = []

-- arguments, the last one first
abbrev pub args_back : PlainArgs → List PlainExpr
args_back no_args = []
args_back (arg e es) = args_back es ++ e ∷ []

-- its parts, the last one first
abbrev pub parts_back : PlainExpr → List PlainExpr
parts_back (plain.Field target key) = key ∷ target ∷ []
parts_back (plain.Remove target key) = key ∷ target ∷ []
parts_back (plain.Neg a) = a ∷ []
parts_back (plain.Not a) = a ∷ []
parts_back (plain.Binary op a b) = b ∷ a ∷ []
parts_back (plain.And a b) = b ∷ a ∷ []
parts_back (plain.Or a b) = b ∷ a ∷ []
parts_back (plain.Call x es) = args_back es
parts_back _ = []

-- the plain forms of expressions that are lent
abbrev pub plain_lent : List (Bor Expr) → List PlainExpr
plain_lent es = map (λ e. plain_expr e.now) es
