-- The names of a tree as they follow one another in it, and what it means that this is their order in the script.
use Rattle.std.specs.Prelude.{◌≤◌, ◌&&◌, ◌||◌, eqb, ltb, Bool, List, [], ◌∷◌, ◌++◌, Option, Some, None, count_by, flat_map}
use Rattle.lf_base.specs.declared.refusals.Place.{Place}
use Rattle.lf_base.specs.Sets.{Member}
use Rattle.lf_parser.specs.declared.name.Name.{Name}
use Rattle.lf_parser.specs.Ascending.{Ascending}
use Rattle.lf_parser.specs.Plain.{PlainExpr, PlainArgs, PlainStmt, PlainBlock, PlainFunction, PlainTree, no_args, arg, no_stmts, stmt}
use Rattle.lf_parser.specs.Plain as plain

abbrev mutual
  pub expr_names : PlainExpr → List Name
  expr_names plain.Nothing = []
  expr_names plain.Yes = []
  expr_names plain.No = []
  expr_names (plain.Number n) = []
  expr_names (plain.Text t) = []
  expr_names plain.Object = []
  expr_names (plain.Var x) = x ∷ []
  expr_names (plain.Field target key) = expr_names target ++ expr_names key
  expr_names (plain.Move x) = x ∷ []
  expr_names (plain.Remove target key) = expr_names target ++ expr_names key
  expr_names (plain.Neg a) = expr_names a
  expr_names (plain.Not a) = expr_names a
  expr_names (plain.Binary op a b) = expr_names a ++ expr_names b
  expr_names (plain.And a b) = expr_names a ++ expr_names b
  expr_names (plain.Or a b) = expr_names a ++ expr_names b
  expr_names (plain.Call x es) = x ∷ args_names es

  pub args_names : PlainArgs → List Name
  args_names no_args = []
  args_names (arg e es) = expr_names e ++ args_names es

abbrev pub value_names : Option PlainExpr → List Name
value_names None = []
value_names (Some e) = expr_names e

abbrev mutual
  pub stmt_names : PlainStmt → List Name
  stmt_names (plain.Assign line x value) = x ∷ expr_names value
  stmt_names (plain.Store line target key value) = expr_names target ++ (expr_names key ++ expr_names value)
  stmt_names (plain.Drop line x) = x ∷ []
  stmt_names (plain.Return line value) = value_names value
  stmt_names (plain.Pass line) = []
  stmt_names (plain.Eval line value) = expr_names value
  stmt_names (plain.If line test body other) = expr_names test ++ (block_names body ++ block_names other)
  stmt_names (plain.While line test body) = expr_names test ++ block_names body
  stmt_names (plain.When line cowns captures body) = cowns ++ (captures ++ block_names body)

  pub block_names : PlainBlock → List Name
  block_names no_stmts = []
  block_names (stmt s ss) = stmt_names s ++ block_names ss

abbrev pub function_names : PlainFunction → List Name
function_names f = f.name ∷ (f.params ++ block_names f.body)

-- those of the functions, one after another
abbrev pub functions_names : List PlainFunction → List Name
functions_names functions = flat_map function_names functions

-- all names; functions may stand between the statements of main
abbrev pub tree_names : PlainTree → List Name
tree_names tree = functions_names tree.functions ++ block_names tree.main

-- by line, then by column
abbrev pub place_before : Place → Place → Bool
place_before a b = ltb a.line b.line || (eqb a.line b.line && ltb a.column b.column)

abbrev pub same_place : Place → Place → Bool
same_place a b = eqb a.line b.line && eqb a.column b.column

-- a name stands before another one, and at a place
abbrev pub stands_before : Name → Name → Bool
stands_before a b = place_before a.place b.place

abbrev pub stands_at : Place → Name → Bool
stands_at place x = same_place place x.place

-- main's names rise by their places, so do those of all functions and of each one, and no two names have one place
pub record NamesInOrder (tree : PlainTree) : Type 0 where
  pub main : Ascending stands_before (block_names tree.main)
  pub functions : Ascending stands_before (functions_names tree.functions)
  pub each : (f : PlainFunction) → Member f tree.functions → Ascending stands_before (function_names f)
  pub once : (place : Place) → count_by (stands_at place) (tree_names tree) ≤ 1
