-- The lines of a tree's statements as they follow one another in it, and what it means that this is their order in the script.
use Rattle.std.specs.Prelude.{◌≤◌, ℕ, eqb, ltb, List, [], ◌∷◌, ◌++◌, count_by, flat_map}
use Rattle.lf_base.specs.Sets.{Member}
use Rattle.lf_parser.specs.Ascending.{Ascending}
use Rattle.lf_parser.specs.Plain.{PlainStmt, PlainBlock, PlainFunction, PlainTree, no_stmts, stmt}
use Rattle.lf_parser.specs.Plain as plain

abbrev mutual
  -- a statement's line, and those of the statements in it
  pub stmt_lines : PlainStmt → List ℕ
  stmt_lines (plain.Assign line x value) = line ∷ []
  stmt_lines (plain.Store line target key value) = line ∷ []
  stmt_lines (plain.Drop line x) = line ∷ []
  stmt_lines (plain.Return line value) = line ∷ []
  stmt_lines (plain.Pass line) = line ∷ []
  stmt_lines (plain.Eval line value) = line ∷ []
  stmt_lines (plain.If line test body other) = line ∷ (block_lines body ++ block_lines other)
  stmt_lines (plain.While line test body) = line ∷ block_lines body
  stmt_lines (plain.When line cowns captures body) = line ∷ block_lines body

  pub block_lines : PlainBlock → List ℕ
  block_lines no_stmts = []
  block_lines (stmt s ss) = stmt_lines s ++ block_lines ss

abbrev pub function_lines : PlainFunction → List ℕ
function_lines f = block_lines f.body

-- those of the functions, one after another
abbrev pub functions_lines : List PlainFunction → List ℕ
functions_lines functions = flat_map function_lines functions

-- all lines; functions may stand between the statements of main
abbrev pub tree_lines : PlainTree → List ℕ
tree_lines tree = functions_lines tree.functions ++ block_lines tree.main

-- main's lines rise, so do those of all functions and of each one, and no two statements have one line
pub record LinesInOrder (tree : PlainTree) : Type 0 where
  pub main : Ascending ltb (block_lines tree.main)
  pub functions : Ascending ltb (functions_lines tree.functions)
  pub each : (f : PlainFunction) → Member f tree.functions → Ascending ltb (function_lines f)
  pub once : (line : ℕ) → count_by (eqb line) (tree_lines tree) ≤ 1
