use Rattle.std.proofs.Common.{Some, ap, sym, ◌∙◌}
use Rattle.lf_barrier.proofs.ContentCalls.{refused_frozen, refused_inside, refused_local, refused_none, region_there}
use Rattle.lf_barrier.proofs.contents.check_content.Goals as goal

pub returns-in_default-owner-clause-answer : goal.returns-in_default-owner-clause-answer
returns-in_default-owner-clause-answer g c s d =
    refused_none (g.S.Store.rows c.args.store.now) c.args.regions.now s d c.args.old c.args.value c.in-Some.o c.in-Some.ensures (sym c.owner.ensures.owner ∙ c.in_default-owner.is)

pub check_inside-requires : goal.check_inside-requires
check_inside-requires g c =
    let h = c.requires.domain in
    region_there (g.S.Store.rows c.args.store.now) c.args.regions.now h.0 h.1 c.args.old c.args.value c.in-Some.o c.in-In.r (sym c.in-Some-owner.ensures.owner ∙ ap Some c.in-In.is)

pub returns-in-Local-clause-answer : goal.returns-in-Local-clause-answer
returns-in-Local-clause-answer g c s d =
    refused_local (g.S.Store.rows c.args.store.now) c.args.regions.now s d c.args.old c.args.value c.in-Some.o c.in-Some.ensures (sym c.in-Some-owner.ensures.owner ∙ ap Some c.in-Local.is)

pub returns-in-Frozen-clause-answer : goal.returns-in-Frozen-clause-answer
returns-in-Frozen-clause-answer g c s d =
    refused_frozen (g.S.Store.rows c.args.store.now) c.args.regions.now s d c.args.old c.args.value c.in-Some.o c.in-Some.ensures (sym c.in-Some-owner.ensures.owner ∙ ap Some c.in-Frozen.is)

pub returns-in-In-clause-answer : goal.returns-in-In-clause-answer
returns-in-In-clause-answer g c s d =
    c.check_inside.ensures
    ∙ refused_inside (g.S.Store.rows c.args.store.now) c.args.regions.now s d c.args.old c.args.value c.in-Some.o c.in-In.r (sym c.in-Some-owner.ensures.owner ∙ ap Some c.in-In.is) c.in-Some.ensures
