use Rattle.std.proofs.Common.{ap, false, not, sym, true, ◌&&◌, ◌∙◌, ◌≡◌}
use Rattle.std.proofs.Math.Bool.{and-false, and-true}
use Rattle.lf_base.specs.Ownership.{is_owned, owns}
use Rattle.lf_transfer.proofs.States.Refusals.{elsewhere_is, owner_shown, owning_shown}
use Rattle.lf_transfer.proofs.merging.is_owned_elsewhere.Goals as goal

pub returns-then-not-is_owned : goal.returns-then-not-is_owned
returns-then-not-is_owned g c s d =
    let rows = g.S.Store.rows c.args.store.now in
    let free : is_owned s c.args.b ≡ false = sym (owner_shown rows c.args.regions.now s d c.args.b c.requires.there) ∙ sym c.is_owned.ensures.flag ∙ c.if-not-is_owned.true in
    sym (and-false (not (owns s c.args.a c.args.b))) ∙ sym (ap (λ x. not (owns s c.args.a c.args.b) && x) free) ∙ elsewhere_is rows c.args.regions.now s d c.args.a c.args.b c.requires.other c.requires.there

pub returns : goal.returns
returns g c s d =
    let rows = g.S.Store.rows c.args.store.now in
    let owned : is_owned s c.args.b ≡ true = sym (owner_shown rows c.args.regions.now s d c.args.b c.requires.there) ∙ sym c.is_owned.ensures.flag ∙ c.if-not-is_owned.false in
    ap not (c.refers_to.ensures ∙ owning_shown rows c.args.regions.now s d c.args.a c.args.b c.requires.other c.requires.there)
    ∙ sym (and-true (not (owns s c.args.a c.args.b))) ∙ sym (ap (λ x. not (owns s c.args.a c.args.b) && x) owned) ∙ elsewhere_is rows c.args.regions.now s d c.args.a c.args.b c.requires.other c.requires.there
