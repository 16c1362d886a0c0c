-- What the names of a tree stand for in its code: numbers of variables, and of bodies.
use Rattle.std.specs.Prelude.{ℕ, ◌+◌, Bool, true, false, eqb, List, [], ◌∷◌, ◌++◌, map, length, drop, codes, Option, Some, None, slice_get}
use Rattle.std.specs.Prelude.{if◌then◌else◌}
use Rattle.std.specs.List.{position_or_len}
use Rattle.std.specs.Str.{bytes_eq}
use Rattle.lf_base.specs.declared.ids.TextId.{TextId}
use Rattle.lf_base.specs.Texts.{Text, text_at, same_text}
use Rattle.lf_parser.specs.declared.name.Name.{Name}
use Rattle.lf_parser.specs.Plain.{PlainArgs, PlainBlock, PlainFunction, PlainTree, arg, no_args, no_stmts, Var}
use Rattle.lf_code.specs.declared.body.BodyName.{BodyName}
use Rattle.lf_code.specs.declared.body.BodyName.TheVariants as body_name
use Rattle.lf_codegen.specs.declared.called.Called.{Called}
use Rattle.lf_codegen.specs.declared.called.Called.TheVariants.{Function}
use Rattle.lf_codegen.specs.Callees.{BuiltIn, built_ins}
use Rattle.lf_codegen.specs.Frames.{PlainFrame, main_frame, function_frame, when_frames, distinct, variables}

-- a script: its texts and its tree
pub record PlainScript : Type 0 where
  pub texts : List Text
  pub tree : PlainTree

-- the number of a variable among those of its frame
abbrev pub var_number : List Name → Name → ℕ
var_number vars x = position_or_len (λ y. same_text x.id y.id) vars

-- a built-in call of that name, or else the function
abbrev pub called_in : List BuiltIn → Text → ℕ → Called
called_in [] text function = Function function
called_in (b ∷ bs) text function = if bytes_eq text b.name then b.called else called_in bs text function

abbrev pub function_number : PlainTree → TextId → ℕ
function_number tree id = 1 + position_or_len (λ f. same_text id f.name.id) tree.functions

abbrev pub called_of : PlainScript → TextId → Called
called_of s id = called_in built_ins (text_at s.texts id.index) (function_number s.tree id)

-- the variable that a question is asked of
abbrev pub asked_number : List Name → PlainArgs → ℕ
asked_number vars (arg (Var x) no_args) = var_number vars x
asked_number vars _ = 0

-- the body of the `when` on a line
abbrev pub when_number : PlainTree → ℕ → ℕ
when_number tree line = 1 + length tree.functions + position_or_len (λ f. eqb f.line line) (when_frames tree)

-- the distinct cown names of a `when`, and the distinct captures that are no cown names
abbrev pub cown_names : List Name → List Name
cown_names cowns = distinct cowns

abbrev pub capture_names : List Name → List Name → List Name
capture_names cowns captures = drop (length (distinct cowns)) (distinct (cowns ++ captures))

-- a frame, and what it is the body of
pub record NamedFrame : Type 0 where
  pub name : BodyName
  pub frame : PlainFrame

abbrev pub function_named : PlainFunction → NamedFrame
function_named f = record { name = body_name.Function f.name.id; frame = function_frame f }

abbrev pub when_named : PlainFrame → NamedFrame
when_named f = record { name = body_name.When; frame = f }

-- all bodies, each at its number
abbrev pub named_frames : PlainTree → List NamedFrame
named_frames tree = record { name = body_name.Main; frame = main_frame tree } ∷
    (map function_named tree.functions ++ map when_named (when_frames tree))

-- the variables and the block of a body; of one that isn't there none
abbrev pub frame_vars : Option NamedFrame → List Name
frame_vars None = []
frame_vars (Some f) = variables f.frame

abbrev pub frame_block : Option NamedFrame → PlainBlock
frame_block None = no_stmts
frame_block (Some f) = f.frame.body

abbrev pub body_vars : PlainScript → ℕ → List Name
body_vars s body = frame_vars (slice_get (named_frames s.tree) body)

abbrev pub body_block : PlainScript → ℕ → PlainBlock
body_block s body = frame_block (slice_get (named_frames s.tree) body)
