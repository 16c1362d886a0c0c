use Rattle.lf_outside.specs.Streams.{stream_of}
use Rattle.lf_outside.proofs.Writing.{first_fails, second_ends}
use Rattle.lf_app.specs.Output.{fault_line, faulted_line}
use Rattle.lf_app.proofs.run_text.write_faulted.Goals as goal

pub returns-in_err-write_fault : goal.returns-in_err-write_fault
returns-in_err-write_fault g c =
    first_fails (stream_of g.K.Sink.held g.K.Sink.faults c.args.out.now) (stream_of g.K.Sink.held g.K.Sink.faults c.write_fault.new.out)
    (fault_line c.args.at) faulted_line _ c.from_residual.result c.in_err-write_fault.ensures c.from_residual.ensures.0

pub returns : goal.returns
returns g c =
    second_ends (stream_of g.K.Sink.held g.K.Sink.faults c.args.out.now) (stream_of g.K.Sink.held g.K.Sink.faults c.write_fault.new.out)
    (stream_of g.K.Sink.held g.K.Sink.faults c.write_word.new.out) (fault_line c.args.at) faulted_line _ c.write_word.result
    c.in_ok-write_fault.ensures c.write_word.ensures
