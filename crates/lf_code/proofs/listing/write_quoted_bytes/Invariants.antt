use Rattle.std.proofs.Common.{flat_map, take, ◌≡◌}
use Rattle.std.specs.Io.KnownBytes.{Appends}
use Rattle.lf_code.specs.Listing.{quoted_byte}
use Rattle.lf_code.proofs.listing.write_quoted_bytes.Given as goal

abbrev pub invariant-loop-byte : goal.invariant-loop-byte
invariant-loop-byte g l =
    (g.K.Sink.faults l.out ≡ g.K.Sink.faults l.initial.out)
    × Appends (g.K.Sink.held l.initial.out) (g.K.Sink.held l.out) (flat_map quoted_byte (take l.byte-index l.text))
