use Rattle.std.proofs.Common.{map, ◌≡◌, ◌<◌, length, get_or, []}
use Rattle.lf_queue.specs.Counts.{find}
use Rattle.lf_queue.proofs.ready_set.seek.Given as goal

abbrev pub invariant-loop-level : goal.invariant-loop-level
invariant-loop-level l = record {
  within : l.level < length l.levels;
  found : (l.place, l.left) ≡ find (get_or (map (λ level. level.items) l.levels) l.level []) l.number;
}

abbrev pub decreases-loop-level : goal.decreases-loop-level
decreases-loop-level l = l.level
