use Rattle.std.proofs.Common.{◌∙◌, ◌≤◌, ◌-◌, length, arith}
use Rattle.std.proofs.lemmas.Grind.{common_steps}
use Rattle.lf_outside.proofs.Moves.{prefix_follows, appends_more}
use Rattle.lf_outside.proofs.transfer.write_all.Goals as goal

pub loop-at-preserved : goal.loop-at-preserved
loop-at-preserved g c =
    let i = c.loop-at.invariant in
    let most = c.in-Ok.ensures.bound in
    let within : c.in-Ok.count ≤ length c.args.bytes.now - c.loop-at.at = grind (arith, common_steps) in (
      omega arith,
      c.in-Ok.ensures.cause.kept ∙ i.1,
      appends_more _ _ _ _ _ _ (prefix_follows c.loop-at.at c.in-Ok.count c.args.bytes.now i.0 within) i.2 c.in-Ok.ensures.bytes,
    )
