use Rattle.lf_barrier.proofs.Surveys.SurveyRows.{Surveying}
use Rattle.lf_barrier.proofs.survey.survey_write.Given as goal

abbrev pub invariant-loop-at : goal.invariant-loop-at
invariant-loop-at g l = Surveying (g.S.Store.rows l.store) l.regions l.place.home l.place.old l.fn.v l.at l.found
