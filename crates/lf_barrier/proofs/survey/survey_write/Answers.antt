use Rattle.lf_barrier.proofs.Surveys.SurveyRows.{none_surveyed, row_is_there, surveyed, surveying_begins, surveying_on}
use Rattle.std.proofs.Common.{sym, ◌∙◌}
use Rattle.lf_barrier.proofs.survey.survey_write.Goals as goal

pub loop-at-init : goal.loop-at-init
loop-at-init g c =
    let rows = g.S.Store.rows c.args.store.now in
    surveying_begins rows c.args.regions.now c.args.place.home c.args.place.old c.args.v c.new-found.result c.visit_value.new.self
    (none_surveyed rows c.args.regions.now c.args.place.home c.args.place.old c.args.v c.new-found.result c.new-found.ensures.moved c.new-found.ensures.touched c.new-found.ensures.inside c.new-found.ensures.second)
    c.in_ok-visit_value.ensures

pub visit_row-requires-clause-there : goal.visit_row-requires-clause-there
visit_row-requires-clause-there g c κs within =
    row_is_there (g.S.Store.rows c.args.store.now) c.args.regions.now c.args.place.home c.args.place.old c.args.v c.loop-at.at c.loop-at.found c.loop-at.invariant c.in-Some.p
    (sym c.in-Some.is ∙ c.name_at.ensures)

pub loop-at-preserved : goal.loop-at-preserved
loop-at-preserved g c =
    surveying_on (g.S.Store.rows c.args.store.now) c.args.regions.now c.args.place.home c.args.place.old c.args.v c.loop-at.at c.loop-at.found c.loop-at.invariant c.in-Some.p
    (sym c.in-Some.is ∙ c.name_at.ensures) c.visit_row.new.self c.in_ok-visit_row.ensures

pub returns-in_default-clause-seen : goal.returns-in_default-clause-seen
returns-in_default-clause-seen g c =
    surveyed (g.S.Store.rows c.args.store.now) c.args.regions.now c.args.place.home c.args.place.old c.args.v c.loop-at.at c.loop-at.found c.loop-at.invariant
    (sym c.in_default.is ∙ c.name_at.ensures)

pub returns-in_default-clause-within : goal.returns-in_default-clause-within
returns-in_default-clause-within g c = c.loop-at.invariant.within
