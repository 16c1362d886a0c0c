-- The frames of a script: main, its functions, and the bodies of its `when`s; and the variables of each.
use Rattle.std.specs.Prelude.{ℕ, ltb, Bool, List, [], ◌∷◌, ◌++◌, map, flat_map, fold, if◌then◌else◌}
use Rattle.std.specs.List.{list_any}
use Rattle.lf_base.specs.declared.ids.TextId.{TextId}
use Rattle.lf_base.specs.Texts.{same_text}
use Rattle.lf_parser.specs.declared.name.Name.{Name}
use Rattle.lf_parser.specs.Plain.{PlainStmt, PlainBlock, PlainFunction, PlainTree, no_stmts, stmt}
use Rattle.lf_parser.specs.Plain as plain
use Rattle.lf_codegen.specs.declared.mention.Mention.{Mention}
use Rattle.lf_codegen.specs.declared.mention.Mention.TheVariants.{Use, Bind, Call}
use Rattle.lf_codegen.specs.Mentions.{block_mentions}

-- a body, with the names that are its own from the start, and the line of its `when`
pub record PlainFrame : Type 0 where
  pub line : ℕ
  pub own : List Name
  pub body : PlainBlock

abbrev mutual
  -- the bodies of `when`s, an outer one before those in it
  pub stmt_whens : PlainStmt → List PlainFrame
  stmt_whens (plain.Assign line x value) = []
  stmt_whens (plain.Store line target key value) = []
  stmt_whens (plain.Drop line x) = []
  stmt_whens (plain.Return line value) = []
  stmt_whens (plain.Pass line) = []
  stmt_whens (plain.Eval line value) = []
  stmt_whens (plain.If line test body other) = block_whens body ++ block_whens other
  stmt_whens (plain.While line test body) = block_whens body
  stmt_whens (plain.When line cowns captures body) = record { line = line; own = cowns ++ captures; body = body } ∷ block_whens body

  pub block_whens : PlainBlock → List PlainFrame
  block_whens no_stmts = []
  block_whens (stmt s ss) = stmt_whens s ++ block_whens ss

abbrev pub function_whens : PlainFunction → List PlainFrame
function_whens f = block_whens f.body

module _ {X : Type 0} (key : X → ℕ) where
  -- an item before the first of these whose key isn't below its own
  abbrev pub put_in_order : X → List X → List X
  put_in_order x [] = x ∷ []
  put_in_order x (y ∷ ys) = if ltb (key y) (key x) then y ∷ put_in_order x ys else x ∷ (y ∷ ys)

  -- the items by rising key, those of one key in their order
  abbrev pub rising : List X → List X
  rising [] = []
  rising (x ∷ xs) = put_in_order x (rising xs)

abbrev pub frame_line : PlainFrame → ℕ
frame_line f = f.line

-- the bodies of all `when`s, in the order of their `when` words, each of which begins a line
abbrev pub when_frames : PlainTree → List PlainFrame
when_frames tree = rising frame_line (flat_map function_whens tree.functions ++ block_whens tree.main)

abbrev pub main_frame : PlainTree → PlainFrame
main_frame tree = record { line = 0; own = []; body = tree.main }

abbrev pub function_frame : PlainFunction → PlainFrame
function_frame f = record { line = 0; own = f.params; body = f.body }

-- all frames, each at the number of its body
abbrev pub frames : PlainTree → List PlainFrame
frames tree = main_frame tree ∷ (map function_frame tree.functions ++ when_frames tree)

-- one of the names is this one
abbrev pub is_among : TextId → List Name → Bool
is_among id names = list_any (λ x. same_text id x.id) names

-- the names that a mention binds, and those of variables that it uses or binds
abbrev pub binds : Mention → List Name
binds (Bind x) = x ∷ []
binds (Use x) = []
binds (Call x count of_variable) = []

abbrev pub variable_of : Mention → List Name
variable_of (Use x) = x ∷ []
variable_of (Bind x) = x ∷ []
variable_of (Call x count of_variable) = []

-- the names that are bound in a frame
abbrev pub bound : PlainFrame → List Name
bound f = f.own ++ flat_map binds (block_mentions f.body)

-- the names with this one, which goes last where it is new
abbrev pub with_new_name : List Name → Name → List Name
with_new_name names x = if is_among x.id names then names else names ++ x ∷ []

-- each name once, where it stands first
abbrev pub distinct : List Name → List Name
distinct names = fold with_new_name [] names

-- the variables of a frame, in the order of their numbers: its own names, then the others as they are first mentioned
abbrev pub variables : PlainFrame → List Name
variables f = distinct (f.own ++ flat_map variable_of (block_mentions f.body))
