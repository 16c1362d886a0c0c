use Rattle.std.proofs.Common.{List, ap, eqb, length, refl, sym, ◌∙◌}
use Rattle.std.proofs.lemmas.Bool.{both_ways}
use Rattle.lf_parcel.specs.declared.spots.Spot.{Spot}
use Rattle.lf_parcel.specs.Parcels.{parts_seen}
use Rattle.lf_parcel.proofs.Orders.RowsInTurn.{found_by_order, ordered}
use Rattle.lf_parcel.proofs.spots.spot_at.Goals as goal

pub returns-else-is_empty : goal.returns-else-is_empty
returns-else-is_empty g c rows are may =
    let seen = parts_seen g.S.Store.part_region g.S.Store.part_rows c.args.parts.now in
    found_by_order seen rows are c.args.order.now c.args.at c.spot_in_order.result
    (ordered seen rows are c.args.order.now may (λ e. both_ways _ (sym (c.is_empty.ensures ∙ ap (λ (l : List Spot). eqb (length l) 0) e) ∙ c.if-is_empty.false) refl)) c.spot_in_order.ensures
