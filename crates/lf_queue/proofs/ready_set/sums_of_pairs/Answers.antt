use Rattle.std.proofs.Common.{arith, ◌*◌}
use Rattle.lf_queue.proofs.Counts.{two_in_total}
use Rattle.lf_queue.proofs.ready_set.sums_of_pairs.Goals as goal

pub overflow_add-counts : goal.overflow_add-counts
overflow_add-counts c = let e = two_in_total c.args.counts.now (2 * c.loop-pair.pair) in let r = c.requires in omega (arith, e, r)
