use Rattle.std.proofs.Common.{Some, ap, sym, ◌∙◌}
use Rattle.lf_barrier.proofs.FieldWrites.PlanRoom.{frozen_row_refused, no_row_refused}
use Rattle.lf_barrier.proofs.planning.plan_write.Goals as goal

pub returns-in_default-clause-answer : goal.returns-in_default-clause-answer
returns-in_default-clause-answer g c s a = no_row_refused (g.S.Store.rows c.args.store.now) c.args.regions.now s a.domain c.args.target c.args.key c.args.value (sym c.owner.ensures.owner ∙ c.in_default.is)

pub returns-in-Frozen-clause-answer : goal.returns-in-Frozen-clause-answer
returns-in-Frozen-clause-answer g c s a =
    frozen_row_refused (g.S.Store.rows c.args.store.now) c.args.regions.now s a.domain c.args.target c.args.key c.args.value (sym c.in-Some.ensures.owner ∙ ap Some c.in-Frozen.is)

pub plan_local-requires-clause-here : goal.plan_local-requires-clause-here
plan_local-requires-clause-here g c κs within = sym c.in-Some.ensures.owner ∙ ap Some c.in-Local.is

pub plan_inside-requires-clause-here : goal.plan_inside-requires-clause-here
plan_inside-requires-clause-here g c κs within = sym c.in-Some.ensures.owner ∙ ap Some c.in-In.is
