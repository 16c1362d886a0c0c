use Rattle.std.proofs.Common.{length, reverse, ◌++◌, ◌+◌, ◌≡◌, ◌≤◌}
use Rattle.std.specs.Vec.{vec_capacity, vec_len}
use Rattle.lf_core.proofs.ending.turn_round.Given as goal

abbrev pub invariant-loop-spawn : goal.invariant-loop-spawn
invariant-loop-spawn l = (l.turned.items ++ reverse l.spawns ≡ reverse l.fn.spawns) × (vec_len l.turned + length l.spawns ≤ vec_capacity l.turned)

abbrev pub decreases-loop-spawn : goal.decreases-loop-spawn
decreases-loop-spawn l = length l.spawns
