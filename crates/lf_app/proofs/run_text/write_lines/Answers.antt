use Rattle.std.proofs.Common.{ap, drop, flat_map, sym, take, ◌++◌, ◌+◌, ◌∙◌}
use Rattle.lf_outside.specs.Streams.{stream_of}
use Rattle.lf_outside.proofs.Writing.{part_fails, parts_at}
use Rattle.lf_app.specs.Output.{with_feed}
use Rattle.lf_app.proofs.run_text.write_lines.Goals as goal

pub returns-in_err-write_line : goal.returns-in_err-write_line
returns-in_err-write_line g c =
    let before = flat_map with_feed (take c.loop-line.line-index c.args.lines.now) in
    let after = flat_map with_feed (drop (c.loop-line.line-index + 1) c.args.lines.now) in
    part_fails (stream_of g.K.Sink.held g.K.Sink.faults c.args.out.now) (stream_of g.K.Sink.held g.K.Sink.faults c.loop-line.out)
    (stream_of g.K.Sink.held g.K.Sink.faults c.write_line.new.out) before _
    after (flat_map with_feed c.args.lines.now)
    c.in_err-write_line.field-0.0 c.from_residual.result
    (parts_at with_feed c.args.lines.now c.loop-line.line-index c.line-item.result c.loop-line-test.true
    ∙ ap (λ line. before ++ (with_feed line ++ after)) (sym c.line-item.is))
    c.loop-line.invariant.0 c.loop-line.invariant.1 c.in_err-write_line.ensures.prefix c.in_err-write_line.ensures.cause
    c.from_residual.ensures.0
