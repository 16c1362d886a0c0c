use Rattle.std.proofs.Common.{Some, ap, subst, sym, true, ◌∙◌, ◌≡◌}
use Rattle.std.specs.Option.{option_copied}
use Rattle.slab.specs.Slab.{get}
use Rattle.lf_poolstore.specs.Units.{StandsAt, UnitView}
use Rattle.lf_poolstore.proofs.PoolFacts.{no_row, place_owner, same_unit}
use Rattle.lf_poolstore.proofs.pools.Pools.owner.Goals as goal

pub returns-in_default : goal.returns-in_default
returns-in_default c =
    no_row c.args.self.now c.args.o c.get-place.result c.get-place.ensures
    (λ u e s. let n = sym e ∙ sym c.get.ensures ∙ ap option_copied c.in_default.is in absurd (cc n))

pub returns-then-holds : goal.returns-then-holds
returns-then-holds c =
    let at : get c.args.self.now.units c.get-place.result.unit ≡ Some c.in-Some.unit.now = sym c.get.ensures ∙ ap option_copied c.in-Some.is in
    ap Some c.owner.ensures.owner ∙ place_owner c.args.self.now c.args.o c.get-place.result c.get-place.ensures c.in-Some.unit.now at (c.holds.ensures.0 c.if-holds.true)

pub returns : goal.returns
returns c =
    let at : get c.args.self.now.units c.get-place.result.unit ≡ Some c.in-Some.unit.now = sym c.get.ensures ∙ ap option_copied c.in-Some.is in
    no_row c.args.self.now c.args.o c.get-place.result c.get-place.ensures
    (λ u e s.
    let holds : c.holds.result ≡ true = c.holds.ensures.1 (subst (λ (v : UnitView). StandsAt v c.get-place.result.row c.args.o) (same_unit u c.in-Some.unit.now (sym e ∙ at)) s) in
    let no = c.if-holds.false in
    absurd (cc (holds, no)))
