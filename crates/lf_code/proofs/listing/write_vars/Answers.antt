use Rattle.std.proofs.Common.{drop, flat_map, take, ◌+◌}
use Rattle.lf_outside.specs.Streams.{stream_of}
use Rattle.lf_outside.proofs.Writing.{part_fails, parts_at}
use Rattle.lf_code.specs.Listing.{spaced}
use Rattle.lf_code.proofs.listing.write_vars.Goals as goal

pub returns-in_err-write_spaced : goal.returns-in_err-write_spaced
returns-in_err-write_spaced g c =
    part_fails (stream_of g.K.Sink.held g.K.Sink.faults c.args.out.now) (stream_of g.K.Sink.held g.K.Sink.faults c.loop-v.out)
    (stream_of g.K.Sink.held g.K.Sink.faults c.write_spaced.new.out) (flat_map spaced (take c.loop-v.v-index c.args.vars.now)) _
    (flat_map spaced (drop (c.loop-v.v-index + 1) c.args.vars.now)) (flat_map spaced c.args.vars.now)
    c.in_err-write_spaced.field-0.0 c.from_residual.result (parts_at spaced c.args.vars.now c.loop-v.v-index _ c.loop-v-test.true)
    c.loop-v.invariant.0 c.loop-v.invariant.1 c.in_err-write_spaced.ensures.prefix c.in_err-write_spaced.ensures.cause
    c.from_residual.ensures.0
