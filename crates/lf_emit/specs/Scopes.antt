-- The scripts that tables in code stand for.
use Rattle.std.specs.Prelude.{List, map, ℕ}
use Rattle.lf_base.specs.Texts.{Text}
use Rattle.lf_code.specs.declared.body.BodyName.{BodyName}
use Rattle.lf_parser.specs.declared.name.Name.{Name}
use Rattle.lf_parser.specs.declared.tree.Tree.{Tree}
use Rattle.lf_parser.specs.Plain.{PlainBlock, PlainTree, plain_tree}
use Rattle.lf_codegen.specs.Frames.{frame_line, when_frames}
use Rattle.lf_codegen.specs.Numbers.{NamedFrame, PlainScript}

abbrev pub plain_script : List Text → Tree → PlainScript
plain_script texts tree = record { texts = texts; tree = plain_tree tree }

abbrev pub frame_with : BodyName → List Name → PlainBlock → NamedFrame
frame_with name own body = record { name = name; frame = record { line = 0; own = own; body = body } }

-- the keys by which names are found, and functions, and the bodies of `when`s
abbrev pub name_keys : List Name → List ℕ
name_keys names = map (λ x. x.id.index) names

abbrev pub function_keys : PlainTree → List ℕ
function_keys tree = map (λ f. f.name.id.index) tree.functions

abbrev pub when_keys : PlainTree → List ℕ
when_keys tree = map frame_line (when_frames tree)
