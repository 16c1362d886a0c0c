use Rattle.std.proofs.Common.{Some, ap, subst, sym, ◌∙◌}
use Rattle.lf_base.specs.Suspects.{Object}
use Rattle.lf_settle.specs.Verdicts.{Judges, row_verdict}
use Rattle.lf_settle.proofs.Counting.CountsTell.{no_frozen_row, owner_is_told}
use Rattle.lf_settle.proofs.Counting.Judged.{judges_local, nothing_stays}
use Rattle.lf_settle.proofs.judging.judge_object.Goals as goal

pub returns-in_default-clause-judged : goal.returns-in_default-clause-judged
returns-in_default-clause-judged g c s is = nothing_stays (g.S.Store.rows c.args.store.now) c.args.regions.now s is c.args.o (sym (owner_is_told (g.S.Store.rows c.args.store.now) c.args.regions.now s is c.args.o) ∙ sym c.owner.ensures.owner ∙ c.in_default.is)

pub judge_inner-requires-clause-state : goal.judge_inner-requires-clause-state
judge_inner-requires-clause-state g c κs within =
    let w = c.requires.state in
    (w.0, (w.1, sym (owner_is_told (g.S.Store.rows c.args.store.now) c.args.regions.now w.0 w.1 c.args.o) ∙ sym c.in-Some.ensures.owner ∙ ap Some c.in-In.is))

pub returns-in-Local-clause-judged : goal.returns-in-Local-clause-judged
returns-in-Local-clause-judged g c s is =
    subst (λ v. Judges s v (Object c.args.o)) (sym (c.judge_row.ensures.verdict))
    (subst (λ w. Judges s (row_verdict (g.S.Store.rows c.args.store.now) c.args.o w) (Object c.args.o)) (sym c.in-Local.is)
    (judges_local (g.S.Store.rows c.args.store.now) c.args.regions.now s is c.args.o (sym (owner_is_told (g.S.Store.rows c.args.store.now) c.args.regions.now s is c.args.o) ∙ sym c.in-Some.ensures.owner ∙ ap Some c.in-Local.is)))

pub returns-in-In-clause-judged : goal.returns-in-In-clause-judged
returns-in-In-clause-judged g c s is =
    c.judge_inner.ensures.judged s is (sym (owner_is_told (g.S.Store.rows c.args.store.now) c.args.regions.now s is c.args.o) ∙ sym c.in-Some.ensures.owner ∙ ap Some c.in-In.is)

pub returns-in-Frozen-clause-judged : goal.returns-in-Frozen-clause-judged
returns-in-Frozen-clause-judged g c s is =
    absurd (no_frozen_row (g.S.Store.rows c.args.store.now) c.args.regions.now s is c.args.o (sym (owner_is_told (g.S.Store.rows c.args.store.now) c.args.regions.now s is c.args.o) ∙ sym c.in-Some.ensures.owner ∙ ap Some c.in-Frozen.is))
