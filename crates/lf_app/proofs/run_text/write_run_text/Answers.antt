use Rattle.std.proofs.Common.{codes, flat_map, ◌++◌}
use Rattle.lf_outside.specs.Streams.{stream_of}
use Rattle.lf_outside.proofs.Writing.{first_fails, second_ends}
use Rattle.lf_app.specs.Output.{last_lines, with_feed}
use Rattle.lf_app.proofs.run_text.write_run_text.Goals as goal

pub returns-in_err-write_word : goal.returns-in_err-write_word
returns-in_err-write_word g c =
    first_fails (stream_of g.K.Sink.held g.K.Sink.faults c.args.out.now) (stream_of g.K.Sink.held g.K.Sink.faults c.write_word.new.out)
    (codes "[0]\n") (flat_map with_feed c.args.lines.now ++ last_lines c.args.fault) _
    c.from_residual.result c.in_err-write_word.ensures c.from_residual.ensures.0

pub returns-in_err-write_lines : goal.returns-in_err-write_lines
returns-in_err-write_lines g c =
    let printed = flat_map with_feed c.args.lines.now in
    let last = last_lines c.args.fault in
    second_ends (stream_of g.K.Sink.held g.K.Sink.faults c.args.out.now) (stream_of g.K.Sink.held g.K.Sink.faults c.write_word.new.out)
    (stream_of g.K.Sink.held g.K.Sink.faults c.write_lines.new.out) (codes "[0]\n") (printed ++ last) _
    c.from_residual-in_err-write_lines.result c.in_ok-write_word.ensures
    (first_fails (stream_of g.K.Sink.held g.K.Sink.faults c.write_word.new.out)
    (stream_of g.K.Sink.held g.K.Sink.faults c.write_lines.new.out) printed last _ c.from_residual-in_err-write_lines.result
    c.in_err-write_lines.ensures c.from_residual-in_err-write_lines.ensures.0)

pub returns : goal.returns
returns g c =
    let printed = flat_map with_feed c.args.lines.now in
    let last = last_lines c.args.fault in
    second_ends (stream_of g.K.Sink.held g.K.Sink.faults c.args.out.now) (stream_of g.K.Sink.held g.K.Sink.faults c.write_word.new.out)
    (stream_of g.K.Sink.held g.K.Sink.faults c.write_last_lines.new.out) (codes "[0]\n") (printed ++ last) _ c.write_last_lines.result
    c.in_ok-write_word.ensures
    (second_ends (stream_of g.K.Sink.held g.K.Sink.faults c.write_word.new.out)
    (stream_of g.K.Sink.held g.K.Sink.faults c.write_lines.new.out)
    (stream_of g.K.Sink.held g.K.Sink.faults c.write_last_lines.new.out) printed last _ c.write_last_lines.result
    c.in_ok-write_lines.ensures c.write_last_lines.ensures)
