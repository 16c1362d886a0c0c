use Rattle.std.proofs.Common.{refl, subst, sym, ◌+◌}
use Rattle.lf_frozen.specs.FrozenRows.{FrozenNamesDiffer}
use Rattle.lf_trials.specs.FrozenBatches.{AreNumbered, HaveLesserBirths}
use Rattle.lf_trials.proofs.FrozenBatches.{apart_push, births_push, numbered_push}
use Rattle.lf_trials.proofs.frozen_maps.batch.Goals as goal

pub loop-birth-preserved : goal.loop-birth-preserved
loop-birth-preserved c =
    let rows = c.loop-birth.rows in
    let birth = c.loop-birth.birth in
    let before = c.loop-birth.invariant in
    record {
      apart = subst FrozenNamesDiffer (sym c.in_default.ensures.ok) (apart_push rows _ birth before.births refl before.apart);
      births = subst (HaveLesserBirths (birth + 1)) (sym c.in_default.ensures.ok) (births_push rows _ birth before.births refl);
      numbered = subst (AreNumbered c.args.seq) (sym c.in_default.ensures.ok) (numbered_push rows _ c.args.seq before.numbered refl);
    }
