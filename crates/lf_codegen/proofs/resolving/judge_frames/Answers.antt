use Rattle.std.proofs.Common.{◌++◌, ◌∷◌, [], ◌∙◌, ap, map, take, fold}
use Rattle.lf_codegen.specs.Earliest.{earlier_refusal}
use Rattle.lf_codegen.specs.Frames.{variables}
use Rattle.lf_codegen.specs.NameRefusals.{frame_refusals}
use Rattle.lf_codegen.specs.TablesMean.{plain_frame, plain_frames}
use Rattle.lf_codegen.proofs.OverLists.Loops.{mapped, flat_mapped}
use Rattle.lf_codegen.proofs.resolving.judge_frames.Goals as goal

pub loop-frame-preserved : goal.loop-frame-preserved
loop-frame-preserved c =
    let i = c.loop-frame.frame-index in
    let frames = c.args.frames.now in
    let frame = c.frame-item.result in (
      c.in_ok-push.ensures.ok
          ∙ ap (λ l. l ++ c.in_ok-names.names ∷ []) c.loop-frame.invariant.0
          ∙ ap (λ n. map variables (plain_frames (take i frames)) ++ n ∷ []) c.in_ok-names.ensures.variables
          ∙ mapped variables plain_frame frames i frame c.loop-frame-test.true c.frame-item.is,
      λ texts functions knows. c.in_ok-names.ensures.refusals texts functions knows
          ∙ ap (λ r. fold earlier_refusal r (frame_refusals texts functions (plain_frame frame)))
          (c.loop-frame.invariant.1 texts functions knows)
          ∙ flat_mapped earlier_refusal (frame_refusals texts functions) plain_frame c.args.first.now.refusal frames i frame
          c.loop-frame-test.true c.frame-item.is,
    )
