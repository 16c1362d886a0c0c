use Rattle.std.proofs.Common.{sym, ◌∙◌}
use Rattle.lf_parcel.proofs.Orders.PartRows.{seeking_on, sought}
use Rattle.lf_parcel.proofs.spots.least_in_part.Goals as goal

pub loop-head-preserved : goal.loop-head-preserved
loop-head-preserved g c =
    seeking_on (g.S.Store.part_rows c.args.part.now) c.args.place c.args.after c.loop-head.at c.loop-head.least c.loop-head.invariant c.in-Some.head c.in-Some.ensures
    c.if_above.result c.lesser-least.result c.if_above.ensures c.lesser-least.ensures.name c.lesser-least.ensures.one

pub returns : goal.returns
returns g c =
    sought (g.S.Store.part_rows c.args.part.now) c.args.place c.args.after c.loop-head.at c.loop-head.least c.loop-head.invariant (sym c.in_default.is ∙ c.part_row.ensures)
