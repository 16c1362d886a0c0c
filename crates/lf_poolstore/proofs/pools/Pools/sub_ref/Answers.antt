use Rattle.std.proofs.Common.{Some, ap, arith, refl, subst, sym, ◌-◌, ◌<◌, ◌∙◌, ◌≡◌}
use Rattle.std.specs.Option.{option_copied_mut}
use Rattle.slab.specs.Slab.{get}
use Rattle.lf_graph.specs.RowChanges.{with_refs}
use Rattle.lf_graph.specs.StoredRows.{CountedRow, refs_by}
use Rattle.lf_poolstore.proofs.PoolChanges.{changed_turns}
use Rattle.lf_poolstore.proofs.PoolFacts.{place_found, place_stands}
use Rattle.lf_poolstore.proofs.PoolSteps.{no_unit, same_places, step_kept, step_room_none, step_rows}
use Rattle.lf_poolstore.proofs.pools.Pools.sub_ref.Goals as goal

pub unreachable-requires : goal.unreachable-requires
unreachable-requires c = no_unit c.args.self.now c.args.o c.get-place.result c.get-place.ensures c.requires.there (sym c.get_mut.ensures.value ∙ ap option_copied_mut c.in_default.is)

pub sub_ref-requires : goal.sub_ref-requires
sub_ref-requires c =
    let at : get c.args.self.now.units c.get-place.result.unit ≡ Some c.in-Some.unit.now = sym c.get_mut.ensures.value ∙ ap option_copied_mut c.in-Some.is in
    let s = place_stands c.args.self.now c.args.o c.get-place.result c.get-place.ensures c.requires.there c.in-Some.unit.now at in
    record { there = (c.args.o, s, subst (λ n. 0 < n) (ap refs_by (place_found c.args.self.now c.args.o c.get-place.result c.get-place.ensures c.in-Some.unit.now at s)) c.requires.above) }

pub invariant_of-self : goal.invariant_of-self
invariant_of-self c =
    let at : get c.args.self.now.units c.get-place.result.unit ≡ Some c.in-Some.unit.now = sym c.get_mut.ensures.value ∙ ap option_copied_mut c.in-Some.is in
    let s = place_stands c.args.self.now c.args.o c.get-place.result c.get-place.ensures c.requires.there c.in-Some.unit.now at in
    record { kept = step_kept c.args.self.now c.args.o c.get-place.result c.get-place.ensures c.requires.there c.in-Some.unit.now c.sub_ref.new.self at c.sub_ref.ensures.owner c.sub_ref.ensures.whole (same_places c.in-Some.unit.now c.sub_ref.new.self c.sub_ref.ensures.places) }

pub returns-clause-rows : goal.returns-clause-rows
returns-clause-rows c =
    let at : get c.args.self.now.units c.get-place.result.unit ≡ Some c.in-Some.unit.now = sym c.get_mut.ensures.value ∙ ap option_copied_mut c.in-Some.is in
    let s = place_stands c.args.self.now c.args.o c.get-place.result c.get-place.ensures c.requires.there c.in-Some.unit.now at in
    step_rows c.args.self.now c.args.o c.get-place.result c.get-place.ensures c.requires.there c.in-Some.unit.now c.sub_ref.new.self at c.sub_ref.ensures.owner c.sub_ref.ensures.whole (same_places c.in-Some.unit.now c.sub_ref.new.self c.sub_ref.ensures.places) _ (changed_turns c.args.o (λ (r : CountedRow). with_refs (r.refs - 1) r) (λ r. refl)) (c.sub_ref.ensures.rows c.args.o s)

pub returns-clause-room : goal.returns-clause-room
returns-clause-room c =
    let at : get c.args.self.now.units c.get-place.result.unit ≡ Some c.in-Some.unit.now = sym c.get_mut.ensures.value ∙ ap option_copied_mut c.in-Some.is in
    let s = place_stands c.args.self.now c.args.o c.get-place.result c.get-place.ensures c.requires.there c.in-Some.unit.now at in
    step_room_none c.args.self.now c.args.o c.get-place.result c.get-place.ensures c.requires.there c.in-Some.unit.now c.sub_ref.new.self at c.sub_ref.ensures.owner c.sub_ref.ensures.whole (same_places c.in-Some.unit.now c.sub_ref.new.self c.sub_ref.ensures.places) (let e = c.sub_ref.ensures.room in omega (arith, e))
