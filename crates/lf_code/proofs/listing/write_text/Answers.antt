use Rattle.std.proofs.Common.{codes}
use Rattle.lf_outside.specs.Streams.{stream_of}
use Rattle.lf_outside.proofs.Writing.{first_fails, second_ends}
use Rattle.lf_code.specs.Listing.{quoted}
use Rattle.lf_code.proofs.listing.write_text.Goals as goal

pub returns-in_err-write_word : goal.returns-in_err-write_word
returns-in_err-write_word g c =
    first_fails (stream_of g.K.Sink.held g.K.Sink.faults c.args.out.now) (stream_of g.K.Sink.held g.K.Sink.faults c.write_word.new.out)
    (codes "text ") (quoted c.args.text.now) _ c.from_residual.result c.in_err-write_word.ensures c.from_residual.ensures.0

pub returns : goal.returns
returns g c =
    second_ends (stream_of g.K.Sink.held g.K.Sink.faults c.args.out.now) (stream_of g.K.Sink.held g.K.Sink.faults c.write_word.new.out)
    (stream_of g.K.Sink.held g.K.Sink.faults c.write_quoted.new.out) (codes "text ") (quoted c.args.text.now) _ c.write_quoted.result
    c.in_ok-write_word.ensures c.write_quoted.ensures
