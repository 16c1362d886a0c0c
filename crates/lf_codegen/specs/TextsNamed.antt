-- The texts that the expressions of a tree name as values, and when a script is fit for code.
use Rattle.std.specs.Prelude.{◌<◌, ltb, List, [], ◌∷◌, ◌++◌, length, map, flat_map, Option, Some, None}
use Rattle.lf_base.specs.declared.ids.TextId.{TextId}
use Rattle.lf_base.specs.Sets.{Member}
use Rattle.lf_base.specs.Texts.{Text}
use Rattle.lf_parser.specs.Ascending.{Ascending}
use Rattle.lf_parser.specs.Plain.{PlainExpr, PlainArgs, PlainStmt, PlainBlock, PlainFunction, PlainTree, no_args, arg, no_stmts, stmt}
use Rattle.lf_parser.specs.Plain as plain
use Rattle.lf_codegen.specs.Frames.{frame_line, when_frames}
use Rattle.lf_codegen.specs.NameRefusals.{Resolves}
use Rattle.lf_codegen.specs.Numbers.{PlainScript}

abbrev mutual
  pub expr_texts : PlainExpr → List TextId
  expr_texts plain.Nothing = []
  expr_texts plain.Yes = []
  expr_texts plain.No = []
  expr_texts (plain.Number n) = []
  expr_texts (plain.Text t) = t ∷ []
  expr_texts plain.Object = []
  expr_texts (plain.Var x) = []
  expr_texts (plain.Field target key) = expr_texts target ++ expr_texts key
  expr_texts (plain.Move x) = []
  expr_texts (plain.Remove target key) = expr_texts target ++ expr_texts key
  expr_texts (plain.Neg a) = expr_texts a
  expr_texts (plain.Not a) = expr_texts a
  expr_texts (plain.Binary op a b) = expr_texts a ++ expr_texts b
  expr_texts (plain.And a b) = expr_texts a ++ expr_texts b
  expr_texts (plain.Or a b) = expr_texts a ++ expr_texts b
  expr_texts (plain.Call x es) = args_texts es

  pub args_texts : PlainArgs → List TextId
  args_texts no_args = []
  args_texts (arg e es) = expr_texts e ++ args_texts es

abbrev pub value_texts : Option PlainExpr → List TextId
value_texts None = []
value_texts (Some e) = expr_texts e

abbrev mutual
  pub stmt_texts : PlainStmt → List TextId
  stmt_texts (plain.Assign line x value) = expr_texts value
  stmt_texts (plain.Store line target key value) = expr_texts target ++ (expr_texts key ++ expr_texts value)
  stmt_texts (plain.Drop line x) = []
  stmt_texts (plain.Return line value) = value_texts value
  stmt_texts (plain.Pass line) = []
  stmt_texts (plain.Eval line value) = expr_texts value
  stmt_texts (plain.If line test body other) = expr_texts test ++ (block_texts body ++ block_texts other)
  stmt_texts (plain.While line test body) = expr_texts test ++ block_texts body
  stmt_texts (plain.When line cowns captures body) = block_texts body

  pub block_texts : PlainBlock → List TextId
  block_texts no_stmts = []
  block_texts (stmt s ss) = stmt_texts s ++ block_texts ss

abbrev pub function_texts : PlainFunction → List TextId
function_texts f = block_texts f.body

abbrev pub tree_texts : PlainTree → List TextId
tree_texts tree = flat_map function_texts tree.functions ++ block_texts tree.main

-- each text that the tree names is one of these
abbrev pub TextsAreThere : List Text → PlainTree → Type 0
TextsAreThere texts tree = (t : TextId) → Member t (tree_texts tree) → t.index < length texts

-- a script's names and calls are right, its texts are there, and no two `when`s stand on one line
pub record IsFitForCode (s : PlainScript) : Type 0 where
  pub resolves : Resolves s.texts s.tree
  pub texts_there : TextsAreThere s.texts s.tree
  pub whens_in_order : Ascending ltb (map frame_line (when_frames s.tree))
