use Rattle.std.proofs.Common.{◌≡◌, List, flat_map, map, take}
use Rattle.lf_base.specs.Texts.{Text}
use Rattle.lf_parser.specs.Plain.{PlainFunction}
use Rattle.lf_codegen.specs.Earliest.{earliest}
use Rattle.lf_codegen.specs.Frames.{variables}
use Rattle.lf_codegen.specs.NameRefusals.{frame_refusals}
use Rattle.lf_codegen.specs.TablesMean.{Knows, plain_frames}
use Rattle.lf_codegen.proofs.resolving.judge_frames.Given as goal

abbrev pub invariant-loop-frame : goal.invariant-loop-frame
invariant-loop-frame l =
    (l.all ≡ map variables (plain_frames (take l.frame-index l.frames)))
    × ((texts : List Text) (functions : List PlainFunction) → Knows l.callees texts functions
    → l.first.refusal ≡ earliest l.fn.first.refusal (flat_map (frame_refusals texts functions)
    (plain_frames (take l.frame-index l.frames))))
