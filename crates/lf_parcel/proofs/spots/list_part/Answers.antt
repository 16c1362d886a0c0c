use Rattle.std.proofs.Common.{sym, ◌∙◌}
use Rattle.lf_parcel.proofs.Orders.PartRows.{all_listed, listing_on}
use Rattle.lf_parcel.proofs.spots.list_part.Goals as goal

pub loop-head-preserved : goal.loop-head-preserved
loop-head-preserved g c =
    listing_on (g.S.Store.part_rows c.args.part.now) c.args.place c.args.spots.now.items c.loop-head.at c.loop-head.spots.items c.loop-head.invariant c.in-Some.head c.in-Some.ensures
    c.push.new.self.items c.in_ok-push.ensures.items

pub returns-clause-names : goal.returns-clause-names
returns-clause-names g c =
    all_listed (g.S.Store.part_rows c.args.part.now) c.args.place c.args.spots.now.items c.loop-head.at c.loop-head.spots.items c.loop-head.invariant (sym c.in_default.is ∙ c.part_row.ensures)
