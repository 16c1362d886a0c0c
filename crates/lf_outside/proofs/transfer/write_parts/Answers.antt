use Rattle.std.proofs.Common.{drop, flat_map, take, ◌+◌}
use Rattle.lf_outside.specs.Streams.{stream_of}
use Rattle.lf_outside.proofs.Writing.{part_fails, parts_at}
use Rattle.lf_outside.proofs.transfer.write_parts.Goals as goal

pub returns-in_err-write_all : goal.returns-in_err-write_all
returns-in_err-write_all g c =
    part_fails (stream_of g.K.Sink.held g.K.Sink.faults c.args.sink.now) (stream_of g.K.Sink.held g.K.Sink.faults c.loop-part.sink)
    (stream_of g.K.Sink.held g.K.Sink.faults c.write_all.new.sink) (flat_map (λ part. part.now) (take c.loop-part.part-index c.args.parts.now)) _
    (flat_map (λ part. part.now) (drop (c.loop-part.part-index + 1) c.args.parts.now)) (flat_map (λ part. part.now) c.args.parts.now)
    c.in_err-write_all.field-0.0 c.from_residual.result (parts_at (λ part. part.now) c.args.parts.now c.loop-part.part-index _ c.loop-part-test.true)
    c.loop-part.invariant.0 c.loop-part.invariant.1 c.in_err-write_all.ensures.prefix c.in_err-write_all.ensures.cause c.from_residual.ensures.0
