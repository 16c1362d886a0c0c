-- The tree of a script as plain data: expressions, statements and blocks without boxes.
use Rattle.std.specs.Prelude.{ℕ, ℤ, List, [], ◌∷◌, map, Option, Some, None}
use Rattle.lf_base.specs.declared.ids.TextId.{TextId}
use Rattle.lf_base.specs.declared.values.Op.{Op}
use Rattle.lf_parser.specs.declared.name.Name.{Name}
use Rattle.lf_parser.specs.declared.expr.Expr.{Expr}
use Rattle.lf_parser.specs.declared.expr.Expr.TheOpen.{Expr-F}
use Rattle.lf_parser.specs.declared.expr.Expr.TheFolds.{fold-Expr}
use Rattle.lf_parser.specs.declared.stmt.Stmt.{Stmt}
use Rattle.lf_parser.specs.declared.stmt.Stmt.TheOpen.{Stmt-F}
use Rattle.lf_parser.specs.declared.stmt.Stmt.TheFolds.{fold-Stmt}
use Rattle.lf_parser.specs.declared.arm.Arm.{Arm}
use Rattle.lf_parser.specs.declared.tree.Function.{Function}
use Rattle.lf_parser.specs.declared.tree.Tree.{Tree}

mutual
  pub data PlainExpr : Type 0 where
    Nothing : PlainExpr
    Yes : PlainExpr
    No : PlainExpr
    Number : ℤ → PlainExpr
    Text : TextId → PlainExpr
    Object : PlainExpr
    Var : Name → PlainExpr
    Field : PlainExpr → PlainExpr → PlainExpr
    Move : Name → PlainExpr
    Remove : PlainExpr → PlainExpr → PlainExpr
    Neg : PlainExpr → PlainExpr
    Not : PlainExpr → PlainExpr
    Binary : Op → PlainExpr → PlainExpr → PlainExpr
    And : PlainExpr → PlainExpr → PlainExpr
    Or : PlainExpr → PlainExpr → PlainExpr
    Call : Name → PlainArgs → PlainExpr

  pub data PlainArgs : Type 0 where
    no_args : PlainArgs
    arg : PlainExpr → PlainArgs → PlainArgs

mutual
  pub data PlainStmt : Type 0 where
    Assign : ℕ → Name → PlainExpr → PlainStmt
    Store : ℕ → PlainExpr → PlainExpr → PlainExpr → PlainStmt
    Drop : ℕ → Name → PlainStmt
    Return : ℕ → Option PlainExpr → PlainStmt
    Pass : ℕ → PlainStmt
    Eval : ℕ → PlainExpr → PlainStmt
    If : ℕ → PlainExpr → PlainBlock → PlainBlock → PlainStmt
    While : ℕ → PlainExpr → PlainBlock → PlainStmt
    When : ℕ → List Name → List Name → PlainBlock → PlainStmt

  pub data PlainBlock : Type 0 where
    no_stmts : PlainBlock
    stmt : PlainStmt → PlainBlock → PlainBlock

pub record PlainFunction : Type 0 where
  pub name : Name
  pub params : List Name
  pub body : PlainBlock

pub record PlainTree : Type 0 where
  pub functions : List PlainFunction
  pub main : PlainBlock

-- a line, a test and a block
pub record PlainArm : Type 0 where
  pub line : ℕ
  pub test : PlainExpr
  pub body : PlainBlock

abbrev pub args_of : List PlainExpr → PlainArgs
args_of [] = no_args
args_of (e ∷ es) = arg e (args_of es)

abbrev pub block_of : List PlainStmt → PlainBlock
block_of [] = no_stmts
block_of (s ∷ ss) = stmt s (block_of ss)

-- an expression whose parts are plain
abbrev pub expr_step : Expr-F PlainExpr → PlainExpr
expr_step Expr-F.None = Nothing
expr_step Expr-F.True = Yes
expr_step Expr-F.False = No
expr_step (Expr-F.Number n) = Number n
expr_step (Expr-F.Text t) = Text t
expr_step Expr-F.Object = Object
expr_step (Expr-F.Var n) = Var n
expr_step (Expr-F.Field t k) = Field t k
expr_step (Expr-F.Move n) = Move n
expr_step (Expr-F.Remove t k) = Remove t k
expr_step (Expr-F.Neg a) = Neg a
expr_step (Expr-F.Not a) = Not a
expr_step (Expr-F.Binary op a b) = Binary op a b
expr_step (Expr-F.And a b) = And a b
expr_step (Expr-F.Or a b) = Or a b
expr_step (Expr-F.Call n es) = Call n (args_of es)

-- the plain form of an expression
abbrev pub plain_expr : Expr → PlainExpr
plain_expr = fold-Expr PlainExpr expr_step

abbrev pub plain_value : Option Expr → Option PlainExpr
plain_value None = None
plain_value (Some e) = Some (plain_expr e)

-- a statement whose blocks are plain
abbrev pub stmt_step : Stmt-F PlainStmt → PlainStmt
stmt_step (Stmt-F.Assign line name value) = Assign line name (plain_expr value)
stmt_step (Stmt-F.Store line target key value) = Store line (plain_expr target) (plain_expr key) (plain_expr value)
stmt_step (Stmt-F.Drop line name) = Drop line name
stmt_step (Stmt-F.Return line value) = Return line (plain_value value)
stmt_step (Stmt-F.Pass line) = Pass line
stmt_step (Stmt-F.Eval line value) = Eval line (plain_expr value)
stmt_step (Stmt-F.If line test body other) = If line (plain_expr test) (block_of body) (block_of other)
stmt_step (Stmt-F.While line test body) = While line (plain_expr test) (block_of body)
stmt_step (Stmt-F.When line cowns captures body) = When line cowns captures (block_of body)

-- the plain form of a statement, and of a block
abbrev pub plain_stmt : Stmt → PlainStmt
plain_stmt = fold-Stmt PlainStmt stmt_step

abbrev pub plain_block : List Stmt → PlainBlock
plain_block ss = block_of (map plain_stmt ss)

abbrev pub plain_arm : Arm → PlainArm
plain_arm a = record { line = a.line; test = plain_expr a.test; body = plain_block a.body }

abbrev pub plain_function : Function → PlainFunction
plain_function f = record { name = f.name; params = f.params; body = plain_block f.body }

-- the plain form of a script's tree
abbrev pub plain_tree : Tree → PlainTree
plain_tree t = record { functions = map plain_function t.functions; main = plain_block t.main }
