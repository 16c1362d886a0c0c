use Rattle.std.proofs.Common.{◌++◌, ◌∙◌, ap, flat_map}
use Rattle.lf_parser.specs.Plain.{plain_block}
use Rattle.lf_codegen.specs.Earliest.{earliest}
use Rattle.lf_codegen.specs.Frames.{binds}
use Rattle.lf_codegen.specs.Mentions.{block_mentions}
use Rattle.lf_codegen.specs.NameRefusals.{mention_refusals}
use Rattle.lf_codegen.proofs.resolving.judge_frame.Goals as goal

pub returns-clause-refusals : goal.returns-clause-refusals
returns-clause-refusals c texts functions knows =
    let old = c.args.first.now.refusal in
    let body = block_mentions (plain_block c.args.frame.now.body.now) in
    c.judge_mentions.ensures texts functions (c.as_slice-own.result.now ++ flat_map binds c.as_slice.result.now) knows c.in_ok-bound.ensures
    ∙ ap (λ ms. earliest old (flat_map (mention_refusals texts functions
    (c.as_slice-own.result.now ++ flat_map binds c.as_slice.result.now)) ms)) (c.as_slice-3.ensures.value ∙ c.in_ok-mentions.ensures)
    ∙ ap (λ ms. earliest old (flat_map (mention_refusals texts functions (c.as_slice-own.result.now ++ flat_map binds ms)) body))
    (c.as_slice.ensures.value ∙ c.in_ok-mentions.ensures)
    ∙ ap (λ own. earliest old (flat_map (mention_refusals texts functions (own ++ flat_map binds body)) body)) c.as_slice-own.ensures
