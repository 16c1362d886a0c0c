use Rattle.std.proofs.Common.{arith, rules, subst, sym}
use Rattle.std.proofs.lemmas.List.Sorted.{answers_always}
use Rattle.lf_parcel.specs.declared.spots.Spot.{Spot}
use Rattle.lf_parcel.specs.Parcels.{parts_seen}
use Rattle.lf_parcel.proofs.Orders.PartsInTurn.{ListedParts, few_here, no_part_listed, part_listed, part_seen, parts_over, rows_in_order}
use Rattle.lf_parcel.proofs.spots.spots_by_name.Goals as goal

pub loop-place-init : goal.loop-place-init
loop-place-init g c =
    let seen = parts_seen g.S.Store.part_region g.S.Store.part_rows c.args.parts.now in
    subst (ListedParts seen 0) (sym c.new-spots.ensures.items) (no_part_listed seen)

pub list_part-requires-clause-few : goal.list_part-requires-clause-few
list_part-requires-clause-few g c κs within =
    let here = part_seen g.S.Store.part_region g.S.Store.part_rows c.args.parts.now c.loop-place.place c.index-parts-place.result c.loop-place-test.true c.index-parts-place.is in
    (few_here (parts_seen g.S.Store.part_region g.S.Store.part_rows c.args.parts.now) c.loop-place.place _ here c.requires.parts).few

pub loop-place-preserved : goal.loop-place-preserved
loop-place-preserved g c =
    let here = part_seen g.S.Store.part_region g.S.Store.part_rows c.args.parts.now c.loop-place.place c.index-parts-place.result c.loop-place-test.true c.index-parts-place.is in
    part_listed (parts_seen g.S.Store.part_region g.S.Store.part_rows c.args.parts.now) c.loop-place.place c.loop-place.spots.items c.list_part.new.spots.items _ here
    c.loop-place.invariant c.in_ok-list_part.ensures.names c.in_ok-list_part.ensures.there

pub returns : goal.returns
returns g c rows are =
    let parts = c.args.parts.now in
    rows_in_order (parts_seen g.S.Store.part_region g.S.Store.part_rows parts) c.loop-place.spots.items c.sort_by_key.new.self.items c.loop-place.place c.loop-place.invariant
    (parts_over g.S.Store.part_region g.S.Store.part_rows parts c.loop-place.place (omega (arith, c.loop-place-test.false)))
    c.in_ok-sort_by_key.ensures.permutation
    (c.in_ok-sort_by_key.ensures.sorted (λ (s : Spot). s.name) (answers_always _ _ _ (λ f a r g h. search rules))) rows are
