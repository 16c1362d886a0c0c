use Rattle.std.proofs.Common.{Some, ap, subst, sym, ◌∙◌, ◌≡◌}
use Rattle.std.specs.Option.{option_copied_mut}
use Rattle.slab.specs.Slab.{get}
use Rattle.lf_poolstore.specs.Pools.{MovesRow}
use Rattle.lf_poolstore.specs.Units.{StandsAt, UnitView}
use Rattle.lf_poolstore.proofs.PoolFacts.{same_unit}
use Rattle.lf_poolstore.proofs.UnitSlots.{here_before, three_slots}
use Rattle.lf_poolstore.proofs.pools.owners.move_row.Goals as goal

pub returns : goal.returns
returns c o u t at_u at_t stands =
    let n = c.args.place.unit in
    let k = c.args.number in
    let a = c.in-Some-get_mut.from.now in
    let b = c.in-Some-try_remove.to in
    let before = c.args.units.now in
    let out = c.try_remove.new.self in
    let back = c.insert_reserved-number.new.self in
    let here : get out n ≡ Some a = sym c.get_mut.ensures.value ∙ ap option_copied_mut c.in-Some-get_mut.is in
    let key : c.insert_reserved-number.result ≡ k = c.insert_reserved-number.ensures.key ∙ c.in-Some-try_remove.ensures.key_is_next in
    let was = here_before before out back n k c.insert_reserved-number.result c.requires.6 a c.take_from-row.new.other c.take_from-row.new.self c.try_remove.ensures.updates here key c.insert_reserved-number.ensures.updates in
    let same_a : a ≡ u = same_unit a u (sym was ∙ at_u) in
    let same_b : b ≡ t = same_unit b t (sym c.in-Some-try_remove.is ∙ c.try_remove.ensures.value ∙ at_t) in
    let s : StandsAt a c.args.place.row o = subst (λ (y : UnitView). StandsAt y c.args.place.row o) (sym same_a) stands in
    subst (λ y. MovesRow (get before) (get back) n k y t o c.take_from-row.result) same_a
    (subst (λ y. MovesRow (get before) (get back) n k a y o c.take_from-row.result) same_b
    (record {
      left = c.take_from-row.new.other;
      taken = c.take_from-row.new.self;
      units = three_slots before out back n k c.insert_reserved-number.result c.requires.6 a c.take_from-row.new.other c.take_from-row.new.self c.try_remove.ensures.updates here key c.insert_reserved-number.ensures.updates;
      left_owner = c.take_from-row.ensures.other_owner;
      left_whole = c.take_from-row.ensures.other_whole;
      left_rows = c.take_from-row.ensures.other_rows o s;
      left_places = c.take_from-row.ensures.other_places o s;
      left_room = c.take_from-row.ensures.other_room;
      taken_owner = c.take_from-row.ensures.owner;
      taken_whole = c.take_from-row.ensures.whole;
      taken_rows = c.take_from-row.ensures.rows o s;
      taken_places = c.take_from-row.ensures.places o s;
      taken_room = c.take_from-row.ensures.room o s;
    }))
