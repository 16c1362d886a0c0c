use Rattle.std.proofs.Common.{subst}
use Rattle.lf_outside.specs.Streams.{stream_of}
use Rattle.lf_outside.specs.Transfer.{Writes}
use Rattle.lf_outside.proofs.Writing.{first_fails, second_ends}
use Rattle.lf_code.specs.Listing.{body_line, instr_line, numbered}
use Rattle.lf_code.proofs.listing.write_body.Goals as goal

pub returns-in_err-write_body_line : goal.returns-in_err-write_body_line
returns-in_err-write_body_line g c =
    first_fails (stream_of g.K.Sink.held g.K.Sink.faults c.args.out.now) (stream_of g.K.Sink.held g.K.Sink.faults c.write_body_line.new.out)
    (body_line c.args.texts.now c.args.number c.args.body.now) (numbered (instr_line c.args.texts.now) 0 c.args.body.now.list) _
    c.from_residual.result c.in_err-write_body_line.ensures c.from_residual.ensures.0

pub returns : goal.returns
returns g c =
    second_ends (stream_of g.K.Sink.held g.K.Sink.faults c.args.out.now) (stream_of g.K.Sink.held g.K.Sink.faults c.write_body_line.new.out)
    (stream_of g.K.Sink.held g.K.Sink.faults c.write_instrs.new.out) (body_line c.args.texts.now c.args.number c.args.body.now)
    (numbered (instr_line c.args.texts.now) 0 c.args.body.now.list) _
    c.write_instrs.result c.in_ok-write_body_line.ensures
    (subst (λ l. Writes (numbered (instr_line c.args.texts.now) 0 l) (stream_of g.K.Sink.held g.K.Sink.faults c.write_body_line.new.out)
    (stream_of g.K.Sink.held g.K.Sink.faults c.write_instrs.new.out) c.write_instrs.result) c.as_slice.ensures c.write_instrs.ensures)
