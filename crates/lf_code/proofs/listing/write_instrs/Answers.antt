use Rattle.std.proofs.Common.{drop, take, ◌+◌, ◌∙◌}
use Rattle.lf_outside.specs.Streams.{stream_of}
use Rattle.lf_outside.proofs.Moves.{appends_more}
use Rattle.lf_outside.proofs.Writing.{part_fails}
use Rattle.lf_code.specs.Listing.{instr_line, numbered}
use Rattle.lf_code.proofs.Numbered.{items_at, one_item_more}
use Rattle.lf_code.proofs.listing.write_instrs.Goals as goal

pub returns-in_err-write_instr_line : goal.returns-in_err-write_instr_line
returns-in_err-write_instr_line g c =
    let item = instr_line c.args.texts.now in
    let all = c.args.list.now in
    part_fails (stream_of g.K.Sink.held g.K.Sink.faults c.args.out.now) (stream_of g.K.Sink.held g.K.Sink.faults c.loop-at.out)
    (stream_of g.K.Sink.held g.K.Sink.faults c.write_instr_line.new.out) (numbered item 0 (take c.loop-at.at all))
    (item c.loop-at.at c.index-list-at.result) (numbered item (c.loop-at.at + 1) (drop (c.loop-at.at + 1) all)) (numbered item 0 all)
    c.in_err-write_instr_line.field-0.0 c.from_residual.result (items_at item all c.loop-at.at c.index-list-at.result c.index-list-at.is
    c.loop-at-test.true)
    c.loop-at.invariant.0 c.loop-at.invariant.1 c.in_err-write_instr_line.ensures.prefix c.in_err-write_instr_line.ensures.cause
    c.from_residual.ensures.0

pub loop-at-preserved : goal.loop-at-preserved
loop-at-preserved g c =
    let item = instr_line c.args.texts.now in
    let all = c.args.list.now in (
      c.in_ok-write_instr_line.ensures.cause.kept ∙ c.loop-at.invariant.0,
      appends_more (g.K.Sink.held c.args.out.now) (g.K.Sink.held c.loop-at.out) (g.K.Sink.held c.write_instr_line.new.out)
          (numbered item 0 (take c.loop-at.at all)) (item c.loop-at.at c.index-list-at.result)
          (numbered item 0 (take (c.loop-at.at + 1) all))
          (one_item_more item all c.loop-at.at c.index-list-at.result c.index-list-at.is c.loop-at-test.true) c.loop-at.invariant.1
          c.in_ok-write_instr_line.ensures.all,
    )
