use Rattle.std.proofs.Common.{flat_map}
use Rattle.lf_outside.specs.Streams.{stream_of}
use Rattle.lf_outside.proofs.Writing.{second_ends}
use Rattle.lf_code.specs.Listing.{spaced}
use Rattle.lf_code.proofs.listing.write_word_and_vars.Goals as goal

pub returns : goal.returns
returns g c =
    second_ends (stream_of g.K.Sink.held g.K.Sink.faults c.args.out.now) (stream_of g.K.Sink.held g.K.Sink.faults c.write_word.new.out)
    (stream_of g.K.Sink.held g.K.Sink.faults c.write_vars.new.out) c.args.word.now (flat_map spaced c.args.vars.now) _
    c.write_vars.result c.in_ok-write_word.ensures c.write_vars.ensures
