use Rattle.std.proofs.Common.{inl, rules}
use Rattle.lf_outside.specs.Streams.{stream_of}
use Rattle.lf_app.proofs.Dues.{due_is_met, written_whole}
use Rattle.lf_app.proofs.program.tool.Goals as goal

pub returns-clause-complete : goal.returns-clause-complete
returns-clause-complete g c told tells source_kept sink_kept =
    let bytes = c.as_slice.result.now in
    let sink = stream_of g.K.Sink.held g.K.Sink.faults c.args.out.now in
    let sink_after = stream_of g.K.Sink.held g.K.Sink.faults c.write_outcome.new.out in
    let status =
    written_whole sink sink_after c.in-Ok-judge.outcome c.write_outcome.result c.requires.sink c.write_outcome.ensures sink_kept in
    inl (due_is_met c.args.words.now c.in-Some.command (g.S.Source.left c.args.script.now) (g.S.Source.left c.read_all.new.source) bytes
    c.in-Ok-judge.outcome c.write_outcome.result.status
    (search rules) (search rules) (search rules) (search rules) c.in-Ok-judge.ensures status told tells)
