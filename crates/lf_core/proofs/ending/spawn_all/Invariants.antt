use Rattle.std.proofs.Common.{length, reverse, ◌++◌, ◌+◌, ◌≡◌, ◌≤◌}
use Rattle.std.specs.List.{sum_by}
use Rattle.lf_core.specs.Cores.{cowns_of}
use Rattle.lf_core.specs.World.{numbered}
use Rattle.lf_queue.specs.Queues.{IsAboveAll}
use Rattle.lf_core.proofs.ending.spawn_all.Given as goal

abbrev pub invariant-loop-spawn : goal.invariant-loop-spawn
invariant-loop-spawn l = record {
  waiting : l.queue.waiting ++ numbered l.next (reverse l.turned.items) ≡ l.fn.queue.waiting ++ numbered l.fn.next l.fn.spawns;
  running : l.queue.running ≡ l.fn.queue.running;
  next : l.next + length l.turned.items ≡ l.fn.next + length l.fn.spawns;
  jobs : length l.turned.items ≤ l.queue.job_room;
  cowns : sum_by cowns_of l.turned.items ≤ l.queue.cown_room;
  above : IsAboveAll l.next l.queue;
}

abbrev pub decreases-loop-spawn : goal.decreases-loop-spawn
decreases-loop-spawn l = length l.turned.items
