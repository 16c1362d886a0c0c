use Rattle.std.proofs.Common.{subst, sym}
use Rattle.std.proofs.lemmas.List.Sums.{fold_more}
use Rattle.lf_codegen.specs.Frames.{with_new_name}
use Rattle.lf_codegen.specs.TablesMean.{AreOnce}
use Rattle.lf_codegen.proofs.variables.DistinctNames.add_all.Goals as goal

pub loop-name-preserved : goal.loop-name-preserved
loop-name-preserved c names once =
    subst (AreOnce _) (sym (fold_more with_new_name names c.args.more.now c.loop-name.name-index _ c.loop-name-test.true))
    (c.in_ok-add.ensures _ (c.loop-name.invariant names once))
