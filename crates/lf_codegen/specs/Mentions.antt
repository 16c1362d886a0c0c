-- What expressions and statements mention: variables that are used or bound, and calls, in the order of the script.
-- What the body of a `when` mentions is no part of it, since that body is a frame of its own.
use Rattle.std.specs.Prelude.{ℕ, zero, suc, Bool, true, false, List, [], ◌∷◌, ◌++◌, map, Option, Some, None}
use Rattle.lf_parser.specs.declared.name.Name.{Name}
use Rattle.lf_parser.specs.Plain.{PlainExpr, PlainArgs, PlainStmt, PlainBlock, no_args, arg, no_stmts, stmt}
use Rattle.lf_parser.specs.Plain as plain
use Rattle.lf_codegen.specs.declared.mention.Mention.{Mention}
use Rattle.lf_codegen.specs.declared.mention.Mention.TheVariants.{Use, Bind, Call}

-- the number of arguments
abbrev pub args_count : PlainArgs → ℕ
args_count no_args = zero
args_count (arg e es) = suc (args_count es)

abbrev pub is_variable : PlainExpr → Bool
is_variable (plain.Var x) = true
is_variable _ = false

-- there is one argument, and it is a variable
abbrev pub are_one_variable : PlainArgs → Bool
are_one_variable (arg e no_args) = is_variable e
are_one_variable _ = false

abbrev mutual
  pub expr_mentions : PlainExpr → List Mention
  expr_mentions plain.Nothing = []
  expr_mentions plain.Yes = []
  expr_mentions plain.No = []
  expr_mentions (plain.Number n) = []
  expr_mentions (plain.Text t) = []
  expr_mentions plain.Object = []
  expr_mentions (plain.Var x) = Use x ∷ []
  expr_mentions (plain.Field target key) = expr_mentions target ++ expr_mentions key
  expr_mentions (plain.Move x) = Use x ∷ []
  expr_mentions (plain.Remove target key) = expr_mentions target ++ expr_mentions key
  expr_mentions (plain.Neg a) = expr_mentions a
  expr_mentions (plain.Not a) = expr_mentions a
  expr_mentions (plain.Binary op a b) = expr_mentions a ++ expr_mentions b
  expr_mentions (plain.And a b) = expr_mentions a ++ expr_mentions b
  expr_mentions (plain.Or a b) = expr_mentions a ++ expr_mentions b
  expr_mentions (plain.Call x es) = Call x (args_count es) (are_one_variable es) ∷ args_mentions es

  pub args_mentions : PlainArgs → List Mention
  args_mentions no_args = []
  args_mentions (arg e es) = expr_mentions e ++ args_mentions es

abbrev pub value_mentions : Option PlainExpr → List Mention
value_mentions None = []
value_mentions (Some e) = expr_mentions e

-- the names of a `when` are uses in the frame round it
abbrev pub uses : List Name → List Mention
uses names = map Use names

abbrev mutual
  pub stmt_mentions : PlainStmt → List Mention
  stmt_mentions (plain.Assign line x value) = Bind x ∷ expr_mentions value
  stmt_mentions (plain.Store line target key value) = expr_mentions target ++ (expr_mentions key ++ expr_mentions value)
  stmt_mentions (plain.Drop line x) = Use x ∷ []
  stmt_mentions (plain.Return line value) = value_mentions value
  stmt_mentions (plain.Pass line) = []
  stmt_mentions (plain.Eval line value) = expr_mentions value
  stmt_mentions (plain.If line test body other) = expr_mentions test ++ (block_mentions body ++ block_mentions other)
  stmt_mentions (plain.While line test body) = expr_mentions test ++ block_mentions body
  stmt_mentions (plain.When line cowns captures body) = uses cowns ++ uses captures

  pub block_mentions : PlainBlock → List Mention
  block_mentions no_stmts = []
  block_mentions (stmt s ss) = stmt_mentions s ++ block_mentions ss
