-- What the code's tables of callees, of frames and of variables stand for, in the words of the plain tree.
use Rattle.std.specs.Prelude.{◌≡◌, List, map}
use Rattle.std.specs.HashMap.{get}
use Rattle.lf_base.specs.declared.ids.TextId.{TextId}
use Rattle.lf_base.specs.Texts.{Text, same_text}
use Rattle.lf_parser.specs.declared.name.Name.{Name}
use Rattle.lf_parser.specs.Plain.{PlainFunction, plain_block}
use Rattle.lf_codegen.specs.declared.callees.Callees.{Callees}
use Rattle.lf_codegen.specs.declared.frame.Frame.{Frame}
use Rattle.lf_codegen.specs.Frames.{PlainFrame}
use Rattle.lf_codegen.specs.declared.variables.DistinctNames.{DistinctNames}
use Rattle.lf_codegen.specs.NameSets.{HasNames}
use Rattle.lf_codegen.specs.declared.callee.BuiltIn as code
use Rattle.lf_codegen.specs.Callees.{BuiltIn, params_of}

abbrev pub built_in_row : code.BuiltIn → BuiltIn
built_in_row row = record { name = row.name.now; callee = row.callee; called = row.called }

-- the table has the first function of each name
pub record Knows (callees : Callees) (texts : List Text) (functions : List PlainFunction) : Type 0 where
  pub texts_are : callees.texts.now ≡ texts
  pub params_are : (id : TextId) → get same_text callees.params id ≡ params_of functions id

-- a frame as plain data
abbrev pub plain_frame : Frame → PlainFrame
plain_frame f = record { line = f.line; own = f.own; body = plain_block f.body.now }

abbrev pub plain_frames : List Frame → List PlainFrame
plain_frames fs = map plain_frame fs

-- these are the names so far, each once
pub record AreOnce (variables : DistinctNames) (names : List Name) : Type 0 where
  pub names_are : variables.names ≡ names
  pub seen : HasNames variables.seen names
