use Rattle.std.proofs.Common.{ap, subst, sym, ◌∙◌}
use Rattle.lf_base.specs.Owners.{owner_in}
use Rattle.lf_base.specs.Suspects.{Object}
use Rattle.lf_base.specs.declared.values.Owner.TheVariants.{In}
use Rattle.lf_base.proofs.NameLemmas.SameNames.{same_name_is}
use Rattle.lf_settle.specs.declared.verdict.Verdict.TheVariants.{Stays}
use Rattle.lf_settle.specs.Verdicts.{Judges}
use Rattle.lf_settle.proofs.Counting.CountsTell.{row_is_there}
use Rattle.lf_settle.proofs.Counting.Judged.{bridge_stays, judges_inner, judges_region}
use Rattle.lf_settle.proofs.judging.judge_inner.Goals as goal

pub returns-then-is_bare-clause-judged : goal.returns-then-is_bare-clause-judged
returns-then-is_bare-clause-judged g c s is h = judges_region (g.S.Store.rows c.args.store.now) c.args.regions.now s is c.args.o c.args.r h (sym c.is_bare.ensures ∙ c.if-is_bare.true)

pub returns-then-eq-clause-judged : goal.returns-then-eq-clause-judged
returns-then-eq-clause-judged g c s is h =
    let same = same_name_is c.args.r c.args.o (sym c.eq.ensures ∙ c.if-eq.true) in
    subst (λ o. Judges s Stays (Object o)) same
    (bridge_stays (g.S.Store.rows c.args.store.now) c.args.regions.now s is c.args.r (ap (owner_in s.rows) same ∙ h) (sym c.is_bare.ensures ∙ c.if-is_bare.false)).0

pub judge_row-requires-after_bounds : goal.judge_row-requires-after_bounds
judge_row-requires-after_bounds g c κs within =
    let w = c.requires.state in
    row_is_there (g.S.Store.rows c.args.store.now) c.args.regions.now w.0 w.1.0 c.args.o (In c.args.r) w.1.1

pub returns-clause-judged : goal.returns-clause-judged
returns-clause-judged g c s is h =
    subst (λ v. Judges s v (Object c.args.o)) (sym c.judge_row.ensures.verdict)
    (judges_inner (g.S.Store.rows c.args.store.now) c.args.regions.now s is c.args.o c.args.r h (sym c.is_bare.ensures ∙ c.if-is_bare.false) (sym c.eq.ensures ∙ c.if-eq.false))
