use Rattle.std.proofs.Common.{◌≡◌, ◌<◌, ◌^◌, ◌++◌, ◌∷◌, [], List, length, map, ℕ}
use Rattle.lf_queue.specs.Counts.{IsTower, first_level, total}
use Rattle.lf_queue.proofs.ready_set.levels_over.Given as goal

abbrev pub invariant-loop-alloc : goal.invariant-loop-alloc
invariant-loop-alloc l = record {
  tower : (above : List (List ℕ)) → IsTower (l.top.items ∷ above) → IsTower (map (λ level. level.items) l.levels.items ++ (l.top.items ∷ above));
  counts : first_level (map (λ level. level.items) l.levels.items ++ (l.top.items ∷ [])) ≡ l.fn.counts.items;
  fits : total l.top.items < 2 ^ 32;
}

abbrev pub decreases-loop-alloc : goal.decreases-loop-alloc
decreases-loop-alloc l = length l.top.items
