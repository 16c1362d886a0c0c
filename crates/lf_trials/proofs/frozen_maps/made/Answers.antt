use Rattle.std.proofs.Common.{subst, sym, ◌+◌}
use Rattle.lf_trials.specs.FrozenBatches.{HaveLesserNumbers}
use Rattle.lf_trials.proofs.FrozenBatches.{batch_added, batch_is_new}
use Rattle.lf_trials.proofs.frozen_maps.made.Goals as goal

pub with-requires-clause-new : goal.with-requires-clause-new
with-requires-clause-new c = batch_is_new c.in_ok-batch.field-0 c.loop-seq.map c.loop-seq.seq c.in_ok-batch.ensures.numbered c.loop-seq.invariant

pub loop-seq-preserved : goal.loop-seq-preserved
loop-seq-preserved c =
    subst (HaveLesserNumbers (c.loop-seq.seq + 1)) (sym c.in-Ok.ensures.added)
    (batch_added c.in_ok-batch.field-0 c.loop-seq.map c.loop-seq.seq c.in_ok-batch.ensures.numbered c.loop-seq.invariant)
