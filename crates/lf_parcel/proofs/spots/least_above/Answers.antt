use Rattle.std.proofs.Common.{arith, subst}
use Rattle.lf_parcel.specs.Parcels.{parts_seen, rows_of_parts}
use Rattle.lf_parcel.specs.Spots.{LeastOfParts}
use Rattle.lf_parcel.proofs.Orders.PartsInTurn.{few_here, least_of_no_part, least_on, part_seen, parts_over}
use Rattle.lf_parcel.proofs.spots.least_above.Goals as goal

pub loop-place-init : goal.loop-place-init
loop-place-init g c = least_of_no_part (parts_seen g.S.Store.part_region g.S.Store.part_rows c.args.parts.now) c.args.after

pub least_in_part-requires-clause-few : goal.least_in_part-requires-clause-few
least_in_part-requires-clause-few g c κs within =
    let here = part_seen g.S.Store.part_region g.S.Store.part_rows c.args.parts.now c.loop-place.place c.index-parts-place.result c.loop-place-test.true c.index-parts-place.is in
    (few_here (parts_seen g.S.Store.part_region g.S.Store.part_rows c.args.parts.now) c.loop-place.place _ here c.requires.parts).few

pub loop-place-preserved : goal.loop-place-preserved
loop-place-preserved g c =
    let here = part_seen g.S.Store.part_region g.S.Store.part_rows c.args.parts.now c.loop-place.place c.index-parts-place.result c.loop-place-test.true c.index-parts-place.is in
    least_on (parts_seen g.S.Store.part_region g.S.Store.part_rows c.args.parts.now) c.loop-place.place _ here c.args.after
    c.loop-place.least c.least_in_part.result c.lesser-least.result c.loop-place.invariant c.least_in_part.ensures c.lesser-least.ensures.name c.lesser-least.ensures.one

pub returns : goal.returns
returns g c =
    subst (λ ps. LeastOfParts (parts_seen g.S.Store.part_region g.S.Store.part_rows c.args.parts.now) (rows_of_parts ps) c.args.after c.loop-place.least)
    (parts_over g.S.Store.part_region g.S.Store.part_rows c.args.parts.now c.loop-place.place (omega (arith, c.loop-place-test.false))) c.loop-place.invariant
