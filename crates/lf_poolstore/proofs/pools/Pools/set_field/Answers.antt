use Rattle.std.proofs.Common.{Some, ap, arith, refl, subst, sym, cond, is_some, ℕ, ◌≤◌, ◌∙◌, ◌≡◌}
use Rattle.std.specs.Option.{option_copied_mut}
use Rattle.slab.specs.Slab.{get}
use Rattle.lf_base.specs.TakeResult.{field_at}
use Rattle.lf_base.specs.WriteResult.{put_field}
use Rattle.lf_graph.specs.RowChanges.{with_fields}
use Rattle.lf_graph.specs.StoredRows.{CountedRow, fields_by}
use Rattle.lf_graph.specs.Room.{room_for_field}
use Rattle.lf_poolstore.specs.PoolViews.{pool_rows}
use Rattle.lf_poolstore.proofs.PoolChanges.{changed_turns}
use Rattle.lf_poolstore.proofs.PoolFacts.{place_found, place_stands}
use Rattle.lf_poolstore.proofs.PoolSteps.{no_unit, same_places, step_kept, step_room, step_rows, unit_spare}
use Rattle.lf_poolstore.proofs.pools.Pools.set_field.Goals as goal

pub unreachable-requires : goal.unreachable-requires
unreachable-requires c = no_unit c.args.self.now c.args.o c.get-place.result c.get-place.ensures c.requires.there (sym c.get_mut.ensures.value ∙ ap option_copied_mut c.in_default.is)

pub set_field-requires : goal.set_field-requires
set_field-requires c =
    let at : get c.args.self.now.units c.get-place.result.unit ≡ Some c.in-Some.unit.now = sym c.get_mut.ensures.value ∙ ap option_copied_mut c.in-Some.is in
    let s = place_stands c.args.self.now c.args.o c.get-place.result c.get-place.ensures c.requires.there c.in-Some.unit.now at in
    let need : room_for_field (pool_rows c.args.self.now) c.args.o c.args.key ≡ room_for_field c.in-Some.unit.now.rows c.args.o c.args.key = ap {B = ℕ} (λ t. cond (is_some (field_at (fields_by t) c.args.key)) 0 1) (place_found c.args.self.now c.args.o c.get-place.result c.get-place.ensures c.in-Some.unit.now at s) in
    let room = unit_spare c.args.self.now c.args.o c.get-place.result c.get-place.ensures c.requires.there c.in-Some.unit.now at (room_for_field (pool_rows c.args.self.now) c.args.o c.args.key) c.requires.room in
    record { there = (c.args.o, s, subst (λ n. n ≤ c.in-Some.unit.now.spare) need room) }

pub invariant_of-self : goal.invariant_of-self
invariant_of-self c =
    let at : get c.args.self.now.units c.get-place.result.unit ≡ Some c.in-Some.unit.now = sym c.get_mut.ensures.value ∙ ap option_copied_mut c.in-Some.is in
    let s = place_stands c.args.self.now c.args.o c.get-place.result c.get-place.ensures c.requires.there c.in-Some.unit.now at in
    record { kept = step_kept c.args.self.now c.args.o c.get-place.result c.get-place.ensures c.requires.there c.in-Some.unit.now c.set_field.new.self at c.set_field.ensures.owner c.set_field.ensures.whole (same_places c.in-Some.unit.now c.set_field.new.self c.set_field.ensures.places) }

pub returns-clause-rows : goal.returns-clause-rows
returns-clause-rows c =
    let at : get c.args.self.now.units c.get-place.result.unit ≡ Some c.in-Some.unit.now = sym c.get_mut.ensures.value ∙ ap option_copied_mut c.in-Some.is in
    let s = place_stands c.args.self.now c.args.o c.get-place.result c.get-place.ensures c.requires.there c.in-Some.unit.now at in
    step_rows c.args.self.now c.args.o c.get-place.result c.get-place.ensures c.requires.there c.in-Some.unit.now c.set_field.new.self at c.set_field.ensures.owner c.set_field.ensures.whole (same_places c.in-Some.unit.now c.set_field.new.self c.set_field.ensures.places) _ (changed_turns c.args.o (λ (r : CountedRow). with_fields (put_field (r.row).fields c.args.key c.args.v) r) (λ r. refl)) (c.set_field.ensures.rows c.args.o s)

pub returns-clause-room : goal.returns-clause-room
returns-clause-room c =
    let at : get c.args.self.now.units c.get-place.result.unit ≡ Some c.in-Some.unit.now = sym c.get_mut.ensures.value ∙ ap option_copied_mut c.in-Some.is in
    let s = place_stands c.args.self.now c.args.o c.get-place.result c.get-place.ensures c.requires.there c.in-Some.unit.now at in
    let need : room_for_field (pool_rows c.args.self.now) c.args.o c.args.key ≡ room_for_field c.in-Some.unit.now.rows c.args.o c.args.key = ap {B = ℕ} (λ t. cond (is_some (field_at (fields_by t) c.args.key)) 0 1) (place_found c.args.self.now c.args.o c.get-place.result c.get-place.ensures c.in-Some.unit.now at s) in
    step_room c.args.self.now c.args.o c.get-place.result c.get-place.ensures c.requires.there c.in-Some.unit.now c.set_field.new.self at c.set_field.ensures.owner c.set_field.ensures.whole (same_places c.in-Some.unit.now c.set_field.new.self c.set_field.ensures.places) (room_for_field (pool_rows c.args.self.now) c.args.o c.args.key) (let e = c.set_field.ensures.room c.args.o s in omega (arith, e, need))

pub returns-clause-value : goal.returns-clause-value
returns-clause-value c =
    let at : get c.args.self.now.units c.get-place.result.unit ≡ Some c.in-Some.unit.now = sym c.get_mut.ensures.value ∙ ap option_copied_mut c.in-Some.is in
    let s = place_stands c.args.self.now c.args.o c.get-place.result c.get-place.ensures c.requires.there c.in-Some.unit.now at in
    c.set_field.ensures.value c.args.o s ∙ sym (ap (λ t. field_at (fields_by t) c.args.key) (place_found c.args.self.now c.args.o c.get-place.result c.get-place.ensures c.in-Some.unit.now at s))
