use Rattle.std.proofs.Common.{length, ◌-◌, ◌≡◌, ◌≤◌, take}
use Rattle.std.specs.Io.KnownBytes.{Consumes}
use Rattle.lf_outside.proofs.transfer.fill.Given as goal

-- the buffer's prefix is what was read so far
abbrev pub invariant-loop-at : goal.invariant-loop-at
invariant-loop-at g l =
    (l.at ≤ length l.buffer)
    × (g.S.Source.faults l.source ≡ g.S.Source.faults l.initial.source)
    × Consumes (g.S.Source.left l.initial.source) (g.S.Source.left l.source) (take l.at l.buffer)

abbrev pub decreases-loop-at : goal.decreases-loop-at
decreases-loop-at g l = length l.initial.buffer - l.at
