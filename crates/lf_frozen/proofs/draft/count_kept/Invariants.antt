use Rattle.std.proofs.Common.{◌≤◌}
use Rattle.std.specs.Vec.{vec_len}
use Rattle.lf_frozen.proofs.draft.count_kept.Given as goal

abbrev pub invariant-loop-kept : goal.invariant-loop-kept
invariant-loop-kept l = l.kept ≤ vec_len l.tables

abbrev pub decreases-loop-kept : goal.decreases-loop-kept
decreases-loop-kept l = l.kept
