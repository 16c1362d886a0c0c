use Rattle.std.proofs.Common.{drop, flat_map, take, ◌+◌}
use Rattle.lf_outside.specs.Streams.{stream_of}
use Rattle.lf_outside.proofs.Writing.{part_fails, parts_at}
use Rattle.lf_code.specs.Listing.{quoted_byte}
use Rattle.lf_code.proofs.listing.write_quoted_bytes.Goals as goal

pub returns-in_err-write_quoted_byte : goal.returns-in_err-write_quoted_byte
returns-in_err-write_quoted_byte g c =
    part_fails (stream_of g.K.Sink.held g.K.Sink.faults c.args.out.now) (stream_of g.K.Sink.held g.K.Sink.faults c.loop-byte.out)
    (stream_of g.K.Sink.held g.K.Sink.faults c.write_quoted_byte.new.out)
    (flat_map quoted_byte (take c.loop-byte.byte-index c.args.text.now)) _
    (flat_map quoted_byte (drop (c.loop-byte.byte-index + 1) c.args.text.now)) (flat_map quoted_byte c.args.text.now)
    c.in_err-write_quoted_byte.field-0.0 c.from_residual.result (parts_at quoted_byte c.args.text.now c.loop-byte.byte-index _
    c.loop-byte-test.true)
    c.loop-byte.invariant.0 c.loop-byte.invariant.1 c.in_err-write_quoted_byte.ensures.prefix c.in_err-write_quoted_byte.ensures.cause
    c.from_residual.ensures.0
