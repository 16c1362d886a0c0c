use Rattle.std.proofs.Common.{◌∙◌, ap, arith, flat_map}
use Rattle.std.proofs.lemmas.List.{take_all}
use Rattle.lf_codegen.specs.Earliest.{earlier_refusal, earliest}
use Rattle.lf_codegen.specs.NameRefusals.{mention_refusals}
use Rattle.lf_codegen.proofs.OverLists.Loops.{folded}
use Rattle.lf_codegen.proofs.resolving.judge_mentions.Goals as goal

pub loop-mention-preserved : goal.loop-mention-preserved
loop-mention-preserved c texts functions names knows has =
    folded earlier_refusal (mention_refusals texts functions names) c.args.first.now.refusal c.args.mentions.now
    c.loop-mention.mention-index _ c.loop-mention-test.true _ _
    (c.judge_mention.ensures texts functions names knows has) (c.loop-mention.invariant texts functions names knows has)

pub returns : goal.returns
returns c texts functions names knows has =
    c.loop-mention.invariant texts functions names knows has
    ∙ ap (λ l. earliest c.args.first.now.refusal (flat_map (mention_refusals texts functions names) l))
    (take_all c.loop-mention.mention-index c.args.mentions.now (grind arith))
