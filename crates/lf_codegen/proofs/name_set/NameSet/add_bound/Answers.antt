use Rattle.std.proofs.Common.{◌∙◌, ap}
use Rattle.lf_codegen.specs.Frames.{binds, is_among}
use Rattle.lf_codegen.proofs.OverLists.Loops.{flat_step}
use Rattle.lf_codegen.proofs.name_set.NameSet.add_bound.Goals as goal

pub loop-mention-preserved : goal.loop-mention-preserved
loop-mention-preserved c names has id =
    c.in_ok-add_bound_by.ensures _ (c.loop-mention.invariant names has) id
    ∙ ap (is_among id) (flat_step binds names c.args.mentions.now c.loop-mention.mention-index _ c.loop-mention-test.true)
