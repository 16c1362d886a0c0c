use Rattle.std.proofs.Common.{map, ◌≡◌, ◌+◌}
use Rattle.lf_queue.specs.Counts.{changed_to, halved}
use Rattle.lf_queue.proofs.ready_set.raise.Given as goal

abbrev pub invariant-loop-level : goal.invariant-loop-level
invariant-loop-level l = record {
  counts : map (λ level. level.items) l.levels ≡ changed_to (λ n. n + 1) l.level-index l.at (map (λ level. level.items) l.fn.levels);
  place : l.place ≡ halved l.level-index l.at;
}
