use Rattle.lf_trials.specs.FrozenBatches.{HaveLesserNumbers}
use Rattle.lf_trials.proofs.frozen_maps.made.Given as goal

-- the rows so far have lesser numbers
abbrev pub invariant-loop-seq : goal.invariant-loop-seq
invariant-loop-seq l = HaveLesserNumbers l.seq l.map
