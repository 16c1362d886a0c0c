use Rattle.std.proofs.Common.{Some, ap, arith, sym, slice_set, ◌∙◌, ◌≡◌}
use Rattle.std.specs.Option.{option_copied_mut}
use Rattle.slab.specs.Slab.{get, with_value}
use Rattle.lf_poolstore.specs.Index.{place_at}
use Rattle.lf_poolstore.proofs.GivenRows.{last_rows}
use Rattle.lf_poolstore.proofs.PoolChanges.{slot_set}
use Rattle.lf_poolstore.proofs.PoolFacts.{numbers_in, place_stands}
use Rattle.lf_poolstore.proofs.PoolRows.{shown_rows}
use Rattle.lf_poolstore.proofs.PoolSteps.{no_unit, step_kept, step_room_none}
use Rattle.lf_poolstore.proofs.pools.Pools.keep_owner.Goals as goal

pub unreachable-requires : goal.unreachable-requires
unreachable-requires c = no_unit c.args.self.now c.args.o c.args.place c.requires.place c.requires.there (sym c.get_mut.ensures.value ∙ ap option_copied_mut c.in_default.is)

pub move_last-requires : goal.move_last-requires
move_last-requires c =
    let at : get c.args.self.now.units c.args.place.unit ≡ Some c.in-Some.unit.now = sym c.get_mut.ensures.value ∙ ap option_copied_mut c.in-Some.is in
    record { there = (c.args.o, place_stands c.args.self.now c.args.o c.args.place c.requires.place c.requires.there c.in-Some.unit.now at) }

pub invariant_of-self : goal.invariant_of-self
invariant_of-self c =
    let p = c.args.self.now in
    let o = c.args.o in
    let q = c.args.place in
    let h = c.requires.there in
    let u = c.in-Some.unit.now in
    let v = c.move_last.new.self in
    let at : get p.units q.unit ≡ Some u = sym c.get_mut.ensures.value ∙ ap option_copied_mut c.in-Some.is in
    let s = place_stands p o q c.requires.place h u at in
    record { kept = step_kept p o q c.requires.place h u v at c.move_last.ensures.owner c.move_last.ensures.whole (λ r x e. sym (c.move_last.ensures.places r) ∙ e) }

pub returns-clause-rows : goal.returns-clause-rows
returns-clause-rows c =
    let p = c.args.self.now in
    let o = c.args.o in
    let q = c.args.place in
    let h = c.requires.there in
    let u = c.in-Some.unit.now in
    let v = c.move_last.new.self in
    let at : get p.units q.unit ≡ Some u = sym c.get_mut.ensures.value ∙ ap option_copied_mut c.in-Some.is in
    let s = place_stands p o q c.requires.place h u at in
    last_rows p o q c.requires.place h c.args.owner c.requires.number u v at (get (with_value p.units q.unit v)) (slot_set p.units.slots q.unit u v at) (c.move_last.ensures.rows o s) _
    (shown_rows (place_at p.index) (numbers_in p) (slice_set p.units.slots q.unit (Some v)) (step_kept p o q c.requires.place h u v at c.move_last.ensures.owner c.move_last.ensures.whole (λ r x e. sym (c.move_last.ensures.places r) ∙ e)))

pub returns-clause-room : goal.returns-clause-room
returns-clause-room c =
    let p = c.args.self.now in
    let o = c.args.o in
    let q = c.args.place in
    let h = c.requires.there in
    let u = c.in-Some.unit.now in
    let v = c.move_last.new.self in
    let at : get p.units q.unit ≡ Some u = sym c.get_mut.ensures.value ∙ ap option_copied_mut c.in-Some.is in
    let s = place_stands p o q c.requires.place h u at in
    step_room_none p o q c.requires.place h u v at c.move_last.ensures.owner c.move_last.ensures.whole (λ r x e. sym (c.move_last.ensures.places r) ∙ e) (let e = c.move_last.ensures.room in omega (arith, e))
