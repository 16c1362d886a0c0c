use Rattle.std.proofs.Common.{codes, flat_map, ◌++◌}
use Rattle.lf_outside.specs.Streams.{stream_of}
use Rattle.lf_outside.proofs.Writing.{first_fails, second_ends}
use Rattle.lf_code.specs.Listing.{quoted_byte}
use Rattle.lf_code.proofs.listing.write_quoted.Goals as goal

pub returns-in_err-write_quoted_bytes : goal.returns-in_err-write_quoted_bytes
returns-in_err-write_quoted_bytes g c =
    let bytes = flat_map quoted_byte c.args.text.now in
    second_ends (stream_of g.K.Sink.held g.K.Sink.faults c.args.out.now) (stream_of g.K.Sink.held g.K.Sink.faults c.write_word.new.out)
    (stream_of g.K.Sink.held g.K.Sink.faults c.write_quoted_bytes.new.out) (codes "\"") (bytes ++ (codes "\"")) _
    c.from_residual-in_err-write_quoted_bytes.result c.in_ok-write_word.ensures
    (first_fails (stream_of g.K.Sink.held g.K.Sink.faults c.write_word.new.out)
    (stream_of g.K.Sink.held g.K.Sink.faults c.write_quoted_bytes.new.out) bytes
    (codes "\"") _ c.from_residual-in_err-write_quoted_bytes.result c.in_err-write_quoted_bytes.ensures
    c.from_residual-in_err-write_quoted_bytes.ensures.0)

pub returns : goal.returns
returns g c =
    let bytes = flat_map quoted_byte c.args.text.now in
    second_ends (stream_of g.K.Sink.held g.K.Sink.faults c.args.out.now) (stream_of g.K.Sink.held g.K.Sink.faults c.write_word.new.out)
    (stream_of g.K.Sink.held g.K.Sink.faults c.write_word-2.new.out) (codes "\"") (bytes ++ (codes "\"")) _ c.write_word-2.result
    c.in_ok-write_word.ensures
    (second_ends (stream_of g.K.Sink.held g.K.Sink.faults c.write_word.new.out)
    (stream_of g.K.Sink.held g.K.Sink.faults c.write_quoted_bytes.new.out)
    (stream_of g.K.Sink.held g.K.Sink.faults c.write_word-2.new.out) bytes
    (codes "\"") _ c.write_word-2.result c.in_ok-write_quoted_bytes.ensures c.write_word-2.ensures)
