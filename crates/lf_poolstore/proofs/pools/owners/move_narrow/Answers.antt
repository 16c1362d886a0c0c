use Rattle.std.proofs.Common.{Some, ap, arith, cond, length, subst, sym, ◌++◌, ◌+◌, ◌∙◌, ◌≡◌}
use Rattle.std.specs.Option.{option_copied_mut}
use Rattle.std.specs.Prelude.{option_to_list}
use Rattle.lf_base.specs.declared.ids.ObjId.{ObjId}
use Rattle.lf_base.specs.Names.{same_name}
use Rattle.lf_graph.specs.Room.{room_for_row}
use Rattle.lf_graph.specs.RowChanges.{moved_under}
use Rattle.lf_graph.specs.StoredRows.{fields_by, row_named}
use Rattle.slab.specs.Slab.{get, with_value}
use Rattle.lf_poolstore.specs.NarrowRows.{narrow_row}
use Rattle.lf_poolstore.specs.Pools.{MovesRow}
use Rattle.lf_poolstore.specs.Units.{StandsAt, UnitView, place_in}
use Rattle.lf_poolstore.proofs.PoolFacts.{same_unit}
use Rattle.lf_poolstore.proofs.UnitSlots.{still_here, two_slots}
use Rattle.lf_poolstore.proofs.pools.owners.move_narrow.Goals as goal

pub returns : goal.returns
returns c o u t at_u at_t stands named is =
    let n = c.args.place.unit in
    let k = c.args.number in
    let before = c.args.units.now in
    let apart = c.requires.6 in
    let b = c.in-Some.to.now in
    let a = c.in-Some-get_mut.from.now in
    let taken = c.push_narrow-at.new.self in
    let left = c.remove.new.self in
    let at_b : get before k ≡ Some b = sym c.get_mut.ensures.value ∙ ap option_copied_mut c.in-Some.is in
    let at_a : get (with_value before k taken) n ≡ Some a = sym c.get_mut-2.ensures.value ∙ ap option_copied_mut c.in-Some-get_mut.is in
    let same_b : b ≡ t = same_unit b t (sym at_b ∙ at_t) in
    let same_a : a ≡ u = same_unit a u (sym at_a ∙ still_here before n k apart u t taken left at_u at_t) in
    let s : StandsAt a c.args.place.row o = subst (λ (y : UnitView). StandsAt y c.args.place.row o) (sym same_a) stands in
    let is_a : row_named a.rows o ≡ Some (narrow_row a.owner c.args.row) = subst (λ (y : UnitView). row_named y.rows o ≡ Some (narrow_row y.owner c.args.row)) (sym same_a) is in
    let need : room_for_row a.rows o ≡ 1 + length (option_to_list c.args.row.field) = ap (λ r. 1 + length (fields_by r)) is_a in
    subst (λ (y : UnitView). MovesRow (get before) (get (with_value (with_value before k taken) n left)) n k y t o c.push_narrow-at.result) same_a
    (subst (λ (y : UnitView). MovesRow (get before) (get (with_value (with_value before k taken) n left)) n k a y o c.push_narrow-at.result) same_b
    (record {
      left = left;
      taken = taken;
      units = two_slots before n k apart u t taken left at_u at_t;
      left_owner = c.remove.ensures.owner;
      left_whole = c.remove.ensures.whole;
      left_rows = c.remove.ensures.rows o s;
      left_places = c.remove.ensures.places o s;
      left_room = c.remove.ensures.room;
      taken_owner = c.push_narrow-at.ensures.owner;
      taken_whole = c.push_narrow-at.ensures.whole;
      taken_rows = c.push_narrow-at.ensures.rows ∙ ap (λ r. b.rows ++ moved_under b.owner r) (sym is_a);
      taken_places = λ q. c.push_narrow-at.ensures.places q ∙ ap (λ (z : ObjId). cond (same_name z q) (Some c.push_narrow-at.result) (place_in b q)) named;
      taken_room = let e = c.push_narrow-at.ensures.room in omega (arith, e, need);
    }))
