use Rattle.std.proofs.Common.{subst, ◌∙◌}
use Rattle.lf_base.specs.declared.values.Owner.TheVariants.{In}
use Rattle.lf_domain.proofs.StoreEdges.{owned_has_row, owner_told}
use Rattle.lf_base.specs.EdgeLists.{near_edges}
use Rattle.lf_domain.proofs.CountedEdges.{region_there}
use Rattle.lf_barrier.specs.Descents.{IsBelow}
use Rattle.lf_barrier.proofs.Surveys.JudgedSurvey.{old_told, says_cycle, says_inside, says_none, says_second, touched_other, writes}
use Rattle.lf_barrier.proofs.planning.judge.Goals as goal

pub field-requires : goal.field-requires
field-requires g c =
    record { there = owned_has_row (g.S.Store.rows c.args.store.now) c.args.target (In c.args.home) c.requires.here }

pub returns-then-inside-clause-answer : goal.returns-then-inside-clause-answer
returns-then-inside-clause-answer g c s a =
    let here = owner_told (g.S.Store.rows c.args.store.now) s.rows c.args.target (((a.domain).counts).store).rows ∙ c.requires.here in
    says_inside (g.S.Store.rows c.args.store.now) c.args.regions.now s (a.domain) c.args.target c.args.key c.args.value c.args.home here a.value
    c.target_of-old.result (old_told (g.S.Store.rows c.args.store.now) c.args.regions.now s a.domain c.args.target c.args.key c.target_of-old.result c.field.result c.target_of-old.ensures c.field.ensures.value)
    c.in_ok-moved.field-0 c.in_ok-moved.ensures.seen (c.in_ok-moved.ensures.within s a.domain) c.if-inside.true

pub returns-then-second-clause-answer : goal.returns-then-second-clause-answer
returns-then-second-clause-answer g c s a =
    let here = owner_told (g.S.Store.rows c.args.store.now) s.rows c.args.target (((a.domain).counts).store).rows ∙ c.requires.here in
    says_second (g.S.Store.rows c.args.store.now) c.args.regions.now s (a.domain) c.args.target c.args.key c.args.value c.args.home here a.value
    c.target_of-old.result (old_told (g.S.Store.rows c.args.store.now) c.args.regions.now s a.domain c.args.target c.args.key c.target_of-old.result c.field.result c.target_of-old.ensures c.field.ensures.value)
    c.in_ok-moved.field-0 c.in_ok-moved.ensures.seen (c.in_ok-moved.ensures.within s a.domain) c.if-inside.false c.if-second.true

pub is_below-requires-clause-bridges : goal.is_below-requires-clause-bridges
is_below-requires-clause-bridges g c κs within =
    let h = c.requires.asked in
    let s = h.0 in
    let a = h.1 in
    let here = owner_told (g.S.Store.rows c.args.store.now) s.rows c.args.target (((a.domain).counts).store).rows ∙ c.requires.here in
    touched_other (g.S.Store.rows c.args.store.now) c.args.regions.now s (a.domain) c.args.target c.args.key c.args.value c.args.home here a.value
    c.target_of-old.result (old_told (g.S.Store.rows c.args.store.now) c.args.regions.now s a.domain c.args.target c.args.key c.target_of-old.result c.field.result c.target_of-old.ensures c.field.ensures.value)
    c.in_ok-moved.field-0 c.in_ok-moved.ensures.seen (c.in_ok-moved.ensures.within s a.domain)

pub returns-then-branch-clause-answer : goal.returns-then-branch-clause-answer
returns-then-branch-clause-answer g c s a =
    let here = owner_told (g.S.Store.rows c.args.store.now) s.rows c.args.target (((a.domain).counts).store).rows ∙ c.requires.here in
    says_cycle (g.S.Store.rows c.args.store.now) c.args.regions.now s (a.domain) c.args.target c.args.key c.args.value c.args.home here a.value
    c.target_of-old.result (old_told (g.S.Store.rows c.args.store.now) c.args.regions.now s a.domain c.args.target c.args.key c.target_of-old.result c.field.result c.target_of-old.ensures c.field.ensures.value)
    c.in_ok-moved.field-0 c.in_ok-moved.ensures.seen (c.in_ok-moved.ensures.within s a.domain) c.if-inside.false c.if-second.false
    (subst (IsBelow s (c.in_ok-moved.field-0.touched).keys c.args.home) c.if-branch.true (c.in_ok-is_below.ensures s a.domain))

pub returns-clause-answer : goal.returns-clause-answer
returns-clause-answer g c s a =
    let here = owner_told (g.S.Store.rows c.args.store.now) s.rows c.args.target (((a.domain).counts).store).rows ∙ c.requires.here in
    says_none (g.S.Store.rows c.args.store.now) c.args.regions.now s (a.domain) c.args.target c.args.key c.args.value c.args.home here a.value
    c.target_of-old.result (old_told (g.S.Store.rows c.args.store.now) c.args.regions.now s a.domain c.args.target c.args.key c.target_of-old.result c.field.result c.target_of-old.ensures c.field.ensures.value)
    c.in_ok-moved.field-0 c.in_ok-moved.ensures.seen (c.in_ok-moved.ensures.within s a.domain) c.if-inside.false c.if-second.false
    (subst (IsBelow s (c.in_ok-moved.field-0.touched).keys c.args.home) c.if-branch.false (c.in_ok-is_below.ensures s a.domain))

pub returns-clause-moved : goal.returns-clause-moved
returns-clause-moved g c s a =
    let here = owner_told (g.S.Store.rows c.args.store.now) s.rows c.args.target (((a.domain).counts).store).rows ∙ c.requires.here in
    writes (g.S.Store.rows c.args.store.now) c.args.regions.now s (a.domain) c.args.target c.args.key c.args.value c.args.home here a.value
    c.target_of-old.result (old_told (g.S.Store.rows c.args.store.now) c.args.regions.now s a.domain c.args.target c.args.key c.target_of-old.result c.field.result c.target_of-old.ensures c.field.ensures.value)
    c.in_ok-moved.field-0 c.in_ok-moved.ensures.seen (c.in_ok-moved.ensures.within s a.domain)

pub is_below-requires-clause-home : goal.is_below-requires-clause-home
is_below-requires-clause-home g c κs within =
    let h = c.requires.asked in
    region_there (g.S.Store.rows c.args.store.now) c.args.regions.now (h.0).rows (near_edges h.0) c.args.target ((h.1).domain).counts (((h.1).domain).well_formed).bridge c.args.home c.requires.here
