use Rattle.std.proofs.Common.{flat_map, take, ◌≡◌}
use Rattle.std.specs.Io.KnownBytes.{Appends}
use Rattle.lf_outside.proofs.transfer.write_parts.Given as goal

-- the parts before the place were written
abbrev pub invariant-loop-part : goal.invariant-loop-part
invariant-loop-part g l =
    (g.K.Sink.faults l.sink ≡ g.K.Sink.faults l.initial.sink)
    × Appends (g.K.Sink.held l.initial.sink) (g.K.Sink.held l.sink) (flat_map (λ part. part.now) (take l.part-index l.parts))
