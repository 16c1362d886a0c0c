use Rattle.std.proofs.Common.{subst}
use Rattle.lf_codegen.specs.Frames.{variable_of, with_new_name}
use Rattle.lf_codegen.specs.TablesMean.{AreOnce}
use Rattle.lf_codegen.proofs.OverLists.Loops.{fold_flat_step}
use Rattle.lf_codegen.proofs.variables.DistinctNames.add_mentioned.Goals as goal

pub loop-mention-preserved : goal.loop-mention-preserved
loop-mention-preserved c names once =
    subst (AreOnce _) (fold_flat_step with_new_name variable_of names c.args.mentions.now c.loop-mention.mention-index _
    c.loop-mention-test.true)
    (c.in_ok-add_mention.ensures _ (c.loop-mention.invariant names once))
