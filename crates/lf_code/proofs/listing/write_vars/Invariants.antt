use Rattle.std.proofs.Common.{flat_map, take, ◌≡◌}
use Rattle.std.specs.Io.KnownBytes.{Appends}
use Rattle.lf_code.specs.Listing.{spaced}
use Rattle.lf_code.proofs.listing.write_vars.Given as goal

abbrev pub invariant-loop-v : goal.invariant-loop-v
invariant-loop-v g l =
    (g.K.Sink.faults l.out ≡ g.K.Sink.faults l.initial.out)
    × Appends (g.K.Sink.held l.initial.out) (g.K.Sink.held l.out) (flat_map spaced (take l.v-index l.vars))
