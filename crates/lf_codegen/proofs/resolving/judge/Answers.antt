use Rattle.std.proofs.Common.{◌≡◌, ◌∙◌, ap, subst, [], None, map, flat_map}
use Rattle.lf_parser.specs.Plain.{plain_function, plain_tree}
use Rattle.lf_codegen.specs.Earliest.{earliest}
use Rattle.lf_codegen.specs.Frames.{frames}
use Rattle.lf_codegen.specs.NameRefusals.{frame_refusals, names_refusals, params_refusals}
use Rattle.lf_codegen.specs.TablesMean.{Knows, plain_frames}
use Rattle.lf_codegen.proofs.FirstRefusal.Judging.{in_three}
use Rattle.lf_codegen.proofs.resolving.judge.Goals as goal

pub returns-clause-refusals : goal.returns-clause-refusals
returns-clause-refusals c =
    let texts = c.args.texts.now in
    let tree = plain_tree c.args.tree.now in
    let fs = tree.functions in
    let of_frames = flat_map (frame_refusals texts fs) in
    let known = subst (λ l. Knows c.add_all.new.self texts (map plain_function l)
    × (c.add_all.new.first.refusal ≡ earliest c.new-first.result.refusal (names_refusals texts [] (map plain_function l))))
    c.as_slice.ensures (c.in_ok-add_all.ensures texts c.new-callees.ensures) in
    c.in_ok-names.ensures.refusals texts fs known.0
    ∙ ap (λ l. earliest c.judge_functions.new.first.refusal (of_frames (plain_frames l))) c.as_slice-3.ensures.value
    ∙ ap (λ l. earliest c.judge_functions.new.first.refusal (of_frames l)) c.in_ok-frames.ensures
    ∙ ap (λ r. earliest r (of_frames (frames tree)))
    (c.in_ok-judge_functions.ensures
    ∙ ap (λ l. earliest c.add_all.new.first.refusal (flat_map params_refusals (map plain_function l))) c.as_slice-2.ensures
    ∙ ap (λ r. earliest r (flat_map params_refusals fs)) (known.1 ∙ ap (λ r. earliest r (names_refusals texts [] fs)) c.new-first.ensures))
    ∙ in_three None (names_refusals texts [] fs) (flat_map params_refusals fs) (of_frames (frames tree))
