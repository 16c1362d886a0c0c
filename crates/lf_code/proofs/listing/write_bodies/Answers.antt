use Rattle.std.proofs.Common.{drop, take, ◌+◌, ◌∙◌}
use Rattle.lf_outside.specs.Streams.{stream_of}
use Rattle.lf_outside.proofs.Moves.{appends_more}
use Rattle.lf_outside.proofs.Writing.{part_fails}
use Rattle.lf_code.specs.Listing.{body_listing, numbered}
use Rattle.lf_code.proofs.Numbered.{items_at, one_item_more}
use Rattle.lf_code.proofs.listing.write_bodies.Goals as goal

pub returns-in_err-write_body : goal.returns-in_err-write_body
returns-in_err-write_body g c =
    let item = body_listing c.args.texts.now in
    let all = c.args.bodies.now in
    part_fails (stream_of g.K.Sink.held g.K.Sink.faults c.args.out.now) (stream_of g.K.Sink.held g.K.Sink.faults c.loop-number.out)
    (stream_of g.K.Sink.held g.K.Sink.faults c.write_body.new.out) (numbered item 0 (take c.loop-number.number all))
    (item c.loop-number.number c.index-bodies-number.result) (numbered item (c.loop-number.number + 1)
    (drop (c.loop-number.number + 1) all)) (numbered item 0 all)
    c.in_err-write_body.field-0.0 c.from_residual.result (items_at item all c.loop-number.number c.index-bodies-number.result
    c.index-bodies-number.is c.loop-number-test.true)
    c.loop-number.invariant.0 c.loop-number.invariant.1 c.in_err-write_body.ensures.prefix c.in_err-write_body.ensures.cause
    c.from_residual.ensures.0

pub loop-number-preserved : goal.loop-number-preserved
loop-number-preserved g c =
    let item = body_listing c.args.texts.now in
    let all = c.args.bodies.now in (
      c.in_ok-write_body.ensures.cause.kept ∙ c.loop-number.invariant.0,
      appends_more (g.K.Sink.held c.args.out.now) (g.K.Sink.held c.loop-number.out) (g.K.Sink.held c.write_body.new.out)
          (numbered item 0 (take c.loop-number.number all)) (item c.loop-number.number c.index-bodies-number.result)
          (numbered item 0 (take (c.loop-number.number + 1) all))
          (one_item_more item all c.loop-number.number c.index-bodies-number.result c.index-bodies-number.is c.loop-number-test.true)
          c.loop-number.invariant.1 c.in_ok-write_body.ensures.all,
    )
