use Rattle.std.proofs.Common.{◌≡◌, ◌*◌, ◌++◌, drop}
use Rattle.lf_queue.specs.Counts.{pair_sums}
use Rattle.lf_queue.proofs.ready_set.sums_of_pairs.Given as goal

abbrev pub invariant-loop-pair : goal.invariant-loop-pair
invariant-loop-pair l = l.sums.items ++ pair_sums (drop (2 * l.pair) l.counts) ≡ pair_sums l.counts
