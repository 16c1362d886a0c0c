use Rattle.std.proofs.Common.{take, ◌≡◌}
use Rattle.std.specs.Io.KnownBytes.{Appends}
use Rattle.lf_code.specs.Listing.{instr_line, numbered}
use Rattle.lf_code.proofs.listing.write_instrs.Given as goal

abbrev pub invariant-loop-at : goal.invariant-loop-at
invariant-loop-at g l =
    (g.K.Sink.faults l.out ≡ g.K.Sink.faults l.initial.out)
    × Appends (g.K.Sink.held l.initial.out) (g.K.Sink.held l.out) (numbered (instr_line l.texts) 0 (take l.at l.list))
