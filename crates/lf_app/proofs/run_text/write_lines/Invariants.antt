use Rattle.std.proofs.Common.{flat_map, take, ◌≡◌}
use Rattle.std.specs.Io.KnownBytes.{Appends}
use Rattle.lf_app.specs.Output.{with_feed}
use Rattle.lf_app.proofs.run_text.write_lines.Given as goal

abbrev pub invariant-loop-line : goal.invariant-loop-line
invariant-loop-line g l =
    (g.K.Sink.faults l.out ≡ g.K.Sink.faults l.initial.out)
    × Appends (g.K.Sink.held l.initial.out) (g.K.Sink.held l.out) (flat_map with_feed (take l.line-index l.lines))
