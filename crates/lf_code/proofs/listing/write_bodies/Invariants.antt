use Rattle.std.proofs.Common.{take, ◌≡◌}
use Rattle.std.specs.Io.KnownBytes.{Appends}
use Rattle.lf_code.specs.Listing.{body_listing, numbered}
use Rattle.lf_code.proofs.listing.write_bodies.Given as goal

abbrev pub invariant-loop-number : goal.invariant-loop-number
invariant-loop-number g l =
    (g.K.Sink.faults l.out ≡ g.K.Sink.faults l.initial.out)
    × Appends (g.K.Sink.held l.initial.out) (g.K.Sink.held l.out) (numbered (body_listing l.texts) 0 (take l.number l.bodies))
