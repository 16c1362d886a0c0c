use Rattle.std.proofs.Common.{codes, ◌++◌}
use Rattle.lf_outside.specs.Streams.{stream_of}
use Rattle.lf_outside.proofs.Writing.{first_fails, second_ends}
use Rattle.lf_code.specs.Listing.{instr_words, place_words}
use Rattle.lf_code.proofs.listing.write_instr_line.Goals as goal

pub returns-in_err-write_instr : goal.returns-in_err-write_instr
returns-in_err-write_instr g c =
    let words = instr_words c.args.texts.now c.args.placed.now.instr in
    second_ends (stream_of g.K.Sink.held g.K.Sink.faults c.args.out.now) (stream_of g.K.Sink.held g.K.Sink.faults c.write_place.new.out)
    (stream_of g.K.Sink.held g.K.Sink.faults c.write_instr.new.out) (place_words c.args.at c.args.placed.now.line) (words ++ codes "\n")
    _ c.from_residual-in_err-write_instr.result c.in_ok-write_place.ensures
    (first_fails (stream_of g.K.Sink.held g.K.Sink.faults c.write_place.new.out)
    (stream_of g.K.Sink.held g.K.Sink.faults c.write_instr.new.out) words (codes "\n") _ c.from_residual-in_err-write_instr.result
    c.in_err-write_instr.ensures c.from_residual-in_err-write_instr.ensures.0)

pub returns : goal.returns
returns g c =
    let words = instr_words c.args.texts.now c.args.placed.now.instr in
    second_ends (stream_of g.K.Sink.held g.K.Sink.faults c.args.out.now) (stream_of g.K.Sink.held g.K.Sink.faults c.write_place.new.out)
    (stream_of g.K.Sink.held g.K.Sink.faults c.write_word.new.out) (place_words c.args.at c.args.placed.now.line) (words ++ codes "\n")
    _ c.write_word.result c.in_ok-write_place.ensures
    (second_ends (stream_of g.K.Sink.held g.K.Sink.faults c.write_place.new.out)
    (stream_of g.K.Sink.held g.K.Sink.faults c.write_instr.new.out) (stream_of g.K.Sink.held g.K.Sink.faults c.write_word.new.out) words
    (codes "\n") _ c.write_word.result c.in_ok-write_instr.ensures c.write_word.ensures)
