use Rattle.std.proofs.Common.{subst}
use Rattle.lf_barrier.specs.Surveys.{Extends}
use Rattle.lf_barrier.proofs.Surveys.SurveySteps.{extends_none, extends_one}
use Rattle.lf_barrier.proofs.survey.Survey.visit_value.Goals as goal

pub returns-in_ok-visit-in-Some : goal.returns-in_ok-visit-in-Some
returns-in_ok-visit-in-Some g c =
    subst (λ l. Extends (g.S.Store.rows c.args.store.now) c.args.regions.now c.args.place.home c.args.place.old l c.args.self.now c.visit.new.self) c.in-Some.ensures
    (extends_one (g.S.Store.rows c.args.store.now) c.args.regions.now c.args.place.home c.args.place.old c.in-Some.o c.args.self.now c.visit.new.self c.in_ok-visit-in-Some.ensures)

pub returns-in-None : goal.returns-in-None
returns-in-None g c =
    subst (λ l. Extends (g.S.Store.rows c.args.store.now) c.args.regions.now c.args.place.home c.args.place.old l c.args.self.now c.args.self.now) c.in-None.ensures
    (extends_none (g.S.Store.rows c.args.store.now) c.args.regions.now c.args.place.home c.args.place.old c.args.self.now)
