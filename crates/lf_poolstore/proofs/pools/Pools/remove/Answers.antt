use Rattle.std.proofs.Common.{Some, ap, sym, ◌∙◌, ◌≡◌}
use Rattle.std.specs.Option.{option_copied_mut}
use Rattle.slab.specs.Slab.{get}
use Rattle.lf_poolstore.proofs.GoneNames.{gone_kept, gone_room, gone_rows}
use Rattle.lf_poolstore.proofs.PoolFacts.{place_stands}
use Rattle.lf_poolstore.proofs.PoolSteps.{no_unit}
use Rattle.lf_poolstore.proofs.pools.Pools.remove.Goals as goal

pub unreachable-requires : goal.unreachable-requires
unreachable-requires c = no_unit c.args.self.now c.args.o c.take-place.result c.take-place.ensures.place c.requires.there (sym c.get_mut.ensures.value ∙ ap option_copied_mut c.in_default.is)

pub remove-requires : goal.remove-requires
remove-requires c =
    let at : get c.args.self.now.units c.take-place.result.unit ≡ Some c.in-Some.unit.now = sym c.get_mut.ensures.value ∙ ap option_copied_mut c.in-Some.is in
    let s = place_stands c.args.self.now c.args.o c.take-place.result c.take-place.ensures.place c.requires.there c.in-Some.unit.now at in
    record { there = (c.args.o, s) }

pub invariant_of-self : goal.invariant_of-self
invariant_of-self c =
    let at : get c.args.self.now.units c.take-place.result.unit ≡ Some c.in-Some.unit.now = sym c.get_mut.ensures.value ∙ ap option_copied_mut c.in-Some.is in
    let s = place_stands c.args.self.now c.args.o c.take-place.result c.take-place.ensures.place c.requires.there c.in-Some.unit.now at in
    record { kept = gone_kept c.args.self.now c.args.o c.take-place.result c.take-place.ensures.place c.requires.there c.take-place.new.self c.take-place.ensures.others c.in-Some.unit.now c.remove.new.self at c.remove.ensures.owner c.remove.ensures.whole (c.remove.ensures.places c.args.o s) }

pub returns-clause-rows : goal.returns-clause-rows
returns-clause-rows c =
    let at : get c.args.self.now.units c.take-place.result.unit ≡ Some c.in-Some.unit.now = sym c.get_mut.ensures.value ∙ ap option_copied_mut c.in-Some.is in
    let s = place_stands c.args.self.now c.args.o c.take-place.result c.take-place.ensures.place c.requires.there c.in-Some.unit.now at in
    gone_rows c.args.self.now c.args.o c.take-place.result c.take-place.ensures.place c.requires.there c.take-place.new.self c.take-place.ensures.others c.in-Some.unit.now c.remove.new.self at c.remove.ensures.owner c.remove.ensures.whole (c.remove.ensures.places c.args.o s) (c.remove.ensures.rows c.args.o s)

pub returns-clause-room : goal.returns-clause-room
returns-clause-room c =
    let at : get c.args.self.now.units c.take-place.result.unit ≡ Some c.in-Some.unit.now = sym c.get_mut.ensures.value ∙ ap option_copied_mut c.in-Some.is in
    let s = place_stands c.args.self.now c.args.o c.take-place.result c.take-place.ensures.place c.requires.there c.in-Some.unit.now at in
    gone_room c.args.self.now c.args.o c.take-place.result c.take-place.ensures.place c.requires.there c.take-place.new.self c.take-place.ensures.others c.in-Some.unit.now c.remove.new.self at c.remove.ensures.owner c.remove.ensures.whole (c.remove.ensures.places c.args.o s) c.take-place.ensures.room c.remove.ensures.room
