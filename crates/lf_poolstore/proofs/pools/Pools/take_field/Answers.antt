use Rattle.std.proofs.Common.{Some, ap, refl, sym, ◌∙◌, ◌≡◌}
use Rattle.std.specs.Option.{option_copied_mut}
use Rattle.slab.specs.Slab.{get}
use Rattle.lf_base.specs.TakeResult.{drop_field, field_at}
use Rattle.lf_graph.specs.RowChanges.{with_fields}
use Rattle.lf_graph.specs.StoredRows.{CountedRow, fields_by}
use Rattle.lf_poolstore.proofs.PoolChanges.{changed_turns}
use Rattle.lf_poolstore.proofs.PoolFacts.{place_found, place_stands}
use Rattle.lf_poolstore.proofs.PoolSteps.{no_unit, same_places, step_kept, step_room_none, step_rows}
use Rattle.lf_poolstore.proofs.pools.Pools.take_field.Goals as goal

pub unreachable-requires : goal.unreachable-requires
unreachable-requires c = no_unit c.args.self.now c.args.o c.get-place.result c.get-place.ensures c.requires.there (sym c.get_mut.ensures.value ∙ ap option_copied_mut c.in_default.is)

pub take_field-requires : goal.take_field-requires
take_field-requires c =
    let at : get c.args.self.now.units c.get-place.result.unit ≡ Some c.in-Some.unit.now = sym c.get_mut.ensures.value ∙ ap option_copied_mut c.in-Some.is in
    let s = place_stands c.args.self.now c.args.o c.get-place.result c.get-place.ensures c.requires.there c.in-Some.unit.now at in
    record { there = (c.args.o, s) }

pub invariant_of-self : goal.invariant_of-self
invariant_of-self c =
    let at : get c.args.self.now.units c.get-place.result.unit ≡ Some c.in-Some.unit.now = sym c.get_mut.ensures.value ∙ ap option_copied_mut c.in-Some.is in
    let s = place_stands c.args.self.now c.args.o c.get-place.result c.get-place.ensures c.requires.there c.in-Some.unit.now at in
    record { kept = step_kept c.args.self.now c.args.o c.get-place.result c.get-place.ensures c.requires.there c.in-Some.unit.now c.take_field.new.self at c.take_field.ensures.owner c.take_field.ensures.whole (same_places c.in-Some.unit.now c.take_field.new.self c.take_field.ensures.places) }

pub returns-clause-rows : goal.returns-clause-rows
returns-clause-rows c =
    let at : get c.args.self.now.units c.get-place.result.unit ≡ Some c.in-Some.unit.now = sym c.get_mut.ensures.value ∙ ap option_copied_mut c.in-Some.is in
    let s = place_stands c.args.self.now c.args.o c.get-place.result c.get-place.ensures c.requires.there c.in-Some.unit.now at in
    step_rows c.args.self.now c.args.o c.get-place.result c.get-place.ensures c.requires.there c.in-Some.unit.now c.take_field.new.self at c.take_field.ensures.owner c.take_field.ensures.whole (same_places c.in-Some.unit.now c.take_field.new.self c.take_field.ensures.places) _ (changed_turns c.args.o (λ (r : CountedRow). with_fields (drop_field (r.row).fields c.args.key) r) (λ r. refl)) (c.take_field.ensures.rows c.args.o s)

pub returns-clause-room : goal.returns-clause-room
returns-clause-room c =
    let at : get c.args.self.now.units c.get-place.result.unit ≡ Some c.in-Some.unit.now = sym c.get_mut.ensures.value ∙ ap option_copied_mut c.in-Some.is in
    let s = place_stands c.args.self.now c.args.o c.get-place.result c.get-place.ensures c.requires.there c.in-Some.unit.now at in
    step_room_none c.args.self.now c.args.o c.get-place.result c.get-place.ensures c.requires.there c.in-Some.unit.now c.take_field.new.self at c.take_field.ensures.owner c.take_field.ensures.whole (same_places c.in-Some.unit.now c.take_field.new.self c.take_field.ensures.places) c.take_field.ensures.room

pub returns-clause-value : goal.returns-clause-value
returns-clause-value c =
    let at : get c.args.self.now.units c.get-place.result.unit ≡ Some c.in-Some.unit.now = sym c.get_mut.ensures.value ∙ ap option_copied_mut c.in-Some.is in
    let s = place_stands c.args.self.now c.args.o c.get-place.result c.get-place.ensures c.requires.there c.in-Some.unit.now at in
    c.take_field.ensures.value c.args.o s ∙ sym (ap (λ t. field_at (fields_by t) c.args.key) (place_found c.args.self.now c.args.o c.get-place.result c.get-place.ensures c.in-Some.unit.now at s))
