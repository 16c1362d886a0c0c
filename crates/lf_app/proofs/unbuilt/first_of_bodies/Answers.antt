use Rattle.std.proofs.Common.{ap, arith, drop, flat_map, ◌+◌, ◌∙◌}
use Rattle.lf_app.specs.Unbuilt.{least_line, lesser_line, line_unbuilt, lines_unbuilt}
use Rattle.lf_app.proofs.UnbuiltLines.{one_item_more}
use Rattle.lf_app.proofs.unbuilt.first_of_bodies.Goals as goal

pub loop-body-preserved : goal.loop-body-preserved
loop-body-preserved c =
    ap (λ least. lesser_line least (least_line (flat_map lines_unbuilt (drop (c.loop-body.body-index + 1) c.args.bodies.now))))
    c.lesser_line-least.ensures
    ∙ one_item_more lines_unbuilt c.args.bodies.now c.loop-body.body-index c.body-item.result c.loop-body.least c.first_of_instrs.result
    (grind arith) c.body-item.is (c.first_of_instrs.ensures ∙ ap (λ list. least_line (flat_map line_unbuilt list)) c.as_slice.ensures) c.loop-body.invariant
