use Rattle.std.proofs.Common.{take, ◌≡◌}
use Rattle.std.specs.List.{sum_by}
use Rattle.lf_core.specs.Cores.{cowns_of}
use Rattle.lf_core.proofs.ending.count_cowns.Given as goal

abbrev pub invariant-loop-spawn : goal.invariant-loop-spawn
invariant-loop-spawn l = l.count ≡ sum_by cowns_of (take l.spawn-index l.spawns)
