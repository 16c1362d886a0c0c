use Rattle.std.proofs.Common.{false, sym, true, ◌∙◌, ◌≡◌}
use Rattle.lf_base.specs.Ownership.{owns}
use Rattle.lf_transfer.proofs.States.Refusals.{allowed_apart, allowed_child, is_above, none_above, not_above, only_other, owning_shown, owns_not, refused_cycle, refused_owned}
use Rattle.lf_base.proofs.NameLemmas.SameNames.{other_way}
use Rattle.lf_transfer.proofs.merging.judge.Goals as goal

pub returns-then-is_owned_elsewhere-clause-answer : goal.returns-then-is_owned_elsewhere-clause-answer
returns-then-is_owned_elsewhere-clause-answer g c s d =
    refused_owned (g.S.Store.rows c.args.store.now) c.args.regions.now s d c.args.into c.args.from c.requires.other (sym (c.is_owned_elsewhere.ensures s d) ∙ c.if-is_owned_elsewhere.true)

pub returns-then-not-is_owned-clause-answer : goal.returns-then-not-is_owned-clause-answer
returns-then-not-is_owned-clause-answer g c s d =
    let rows = g.S.Store.rows c.args.store.now in
    allowed_apart rows c.args.regions.now s d c.args.into c.args.from c.requires.other (sym (c.is_owned_elsewhere.ensures s d) ∙ c.if-is_owned_elsewhere.false)
    (none_above rows c.args.regions.now s d c.args.into c.args.from c.requires.other c.requires.into (sym c.is_owned.ensures.flag ∙ c.if-not-is_owned.true))

pub returns-then-not-is_owned-clause-child : goal.returns-then-not-is_owned-clause-child
returns-then-not-is_owned-clause-child g c s d =
    let rows = g.S.Store.rows c.args.store.now in
    sym (owns_not rows c.args.regions.now s d c.args.into c.args.from c.requires.other
    (none_above rows c.args.regions.now s d c.args.into c.args.from c.requires.other c.requires.into (sym c.is_owned.ensures.flag ∙ c.if-not-is_owned.true)))

pub returns-then-refers_to-clause-answer : goal.returns-then-refers_to-clause-answer
returns-then-refers_to-clause-answer g c s d =
    let rows = g.S.Store.rows c.args.store.now in
    let owned : owns s c.args.from c.args.into ≡ true =
    sym (owning_shown rows c.args.regions.now s d c.args.from c.args.into (other_way c.args.into c.args.from c.requires.other) c.requires.into) ∙ sym c.refers_to.ensures ∙ c.if-refers_to.true in
    allowed_child rows c.args.regions.now s d c.args.into c.args.from c.requires.other (sym (c.is_owned_elsewhere.ensures s d) ∙ c.if-is_owned_elsewhere.false) owned

pub returns-then-refers_to-clause-child : goal.returns-then-refers_to-clause-child
returns-then-refers_to-clause-child g c s d =
    let rows = g.S.Store.rows c.args.store.now in
    sym c.if-refers_to.true ∙ c.refers_to.ensures ∙ owning_shown rows c.args.regions.now s d c.args.from c.args.into (other_way c.args.into c.args.from c.requires.other) c.requires.into

pub is_below-requires-clause-bridges : goal.is_below-requires-clause-bridges
is_below-requires-clause-bridges g c κs within =
    let h = c.requires.domain in
    only_other (g.S.Store.rows c.args.store.now) c.args.regions.now h.0 h.1 c.args.into c.args.from c.requires.other c.requires.from c.in_ok-start.start.keys c.in_ok-start.ensures

pub returns-then-branch-clause-answer : goal.returns-then-branch-clause-answer
returns-then-branch-clause-answer g c s d =
    let rows = g.S.Store.rows c.args.store.now in
    let apart : owns s c.args.from c.args.into ≡ false =
    sym (owning_shown rows c.args.regions.now s d c.args.from c.args.into (other_way c.args.into c.args.from c.requires.other) c.requires.into) ∙ sym c.refers_to.ensures ∙ c.if-refers_to.false in
    refused_cycle rows c.args.regions.now s d c.args.into c.args.from c.requires.other (sym (c.is_owned_elsewhere.ensures s d) ∙ c.if-is_owned_elsewhere.false) apart
    (is_above rows c.args.regions.now s d c.args.into c.args.from c.in_ok-start.start.keys c.in_ok-start.ensures c.in_ok-is_below.field-0 (c.in_ok-is_below.ensures s d) c.if-branch.true)

pub returns-clause-answer : goal.returns-clause-answer
returns-clause-answer g c s d =
    let rows = g.S.Store.rows c.args.store.now in
    allowed_apart rows c.args.regions.now s d c.args.into c.args.from c.requires.other (sym (c.is_owned_elsewhere.ensures s d) ∙ c.if-is_owned_elsewhere.false)
    (not_above rows c.args.regions.now s d c.args.into c.args.from c.in_ok-start.start.keys c.in_ok-start.ensures c.in_ok-is_below.field-0 (c.in_ok-is_below.ensures s d) c.if-branch.false)

pub returns-clause-child : goal.returns-clause-child
returns-clause-child g c s d =
    let rows = g.S.Store.rows c.args.store.now in
    sym (owns_not rows c.args.regions.now s d c.args.into c.args.from c.requires.other
    (not_above rows c.args.regions.now s d c.args.into c.args.from c.in_ok-start.start.keys c.in_ok-start.ensures c.in_ok-is_below.field-0 (c.in_ok-is_below.ensures s d) c.if-branch.false))
