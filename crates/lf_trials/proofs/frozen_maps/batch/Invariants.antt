use Rattle.lf_frozen.specs.FrozenRows.{FrozenNamesDiffer}
use Rattle.lf_trials.specs.FrozenBatches.{AreNumbered, HaveLesserBirths}
use Rattle.lf_trials.proofs.frozen_maps.batch.Given as goal

-- the rows so far have lesser births
abbrev pub invariant-loop-birth : goal.invariant-loop-birth
invariant-loop-birth l = record {
  apart : FrozenNamesDiffer l.rows;
  births : HaveLesserBirths l.birth l.rows;
  numbered : AreNumbered l.seq l.rows;
}
