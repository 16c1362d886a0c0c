use Rattle.std.proofs.Common.{codes, ◌++◌}
use Rattle.lf_outside.specs.Streams.{stream_of}
use Rattle.lf_outside.proofs.Writing.{first_fails, second_ends}
use Rattle.lf_code.specs.Listing.{with_number, with_vars}
use Rattle.lf_code.proofs.listing.write_when.Goals as goal

pub returns-in_err-write_number : goal.returns-in_err-write_number
returns-in_err-write_number g c =
    first_fails (stream_of g.K.Sink.held g.K.Sink.faults c.args.out.now) (stream_of g.K.Sink.held g.K.Sink.faults c.write_number.new.out)
    (with_number (codes "when") c.args.body) (with_vars (codes " cowns") c.args.cowns.now ++ with_vars (codes " with")
    c.args.captures.now) _
    c.from_residual.result c.in_err-write_number.ensures c.from_residual.ensures.0

pub returns-in_err-write_word_and_vars : goal.returns-in_err-write_word_and_vars
returns-in_err-write_word_and_vars g c =
    let cowns = with_vars (codes " cowns") c.args.cowns.now in
    let captures = with_vars (codes " with") c.args.captures.now in
    second_ends (stream_of g.K.Sink.held g.K.Sink.faults c.args.out.now) (stream_of g.K.Sink.held g.K.Sink.faults c.write_number.new.out)
    (stream_of g.K.Sink.held g.K.Sink.faults c.write_word_and_vars.new.out) (with_number (codes "when") c.args.body) (cowns ++ captures)
    _ c.from_residual-in_err-write_word_and_vars.result c.in_ok-write_number.ensures
    (first_fails (stream_of g.K.Sink.held g.K.Sink.faults c.write_number.new.out)
    (stream_of g.K.Sink.held g.K.Sink.faults c.write_word_and_vars.new.out) cowns captures _
    c.from_residual-in_err-write_word_and_vars.result c.in_err-write_word_and_vars.ensures
    c.from_residual-in_err-write_word_and_vars.ensures.0)

pub returns : goal.returns
returns g c =
    let cowns = with_vars (codes " cowns") c.args.cowns.now in
    let captures = with_vars (codes " with") c.args.captures.now in
    second_ends (stream_of g.K.Sink.held g.K.Sink.faults c.args.out.now) (stream_of g.K.Sink.held g.K.Sink.faults c.write_number.new.out)
    (stream_of g.K.Sink.held g.K.Sink.faults c.write_word_and_vars-2.new.out) (with_number (codes "when") c.args.body)
    (cowns ++ captures) _ c.write_word_and_vars-2.result c.in_ok-write_number.ensures
    (second_ends (stream_of g.K.Sink.held g.K.Sink.faults c.write_number.new.out)
    (stream_of g.K.Sink.held g.K.Sink.faults c.write_word_and_vars.new.out)
    (stream_of g.K.Sink.held g.K.Sink.faults c.write_word_and_vars-2.new.out) cowns captures _ c.write_word_and_vars-2.result
    c.in_ok-write_word_and_vars.ensures c.write_word_and_vars-2.ensures)
