use Rattle.lf_graph.specs.StoredRows.{fields_at}
use Rattle.lf_barrier.proofs.Surveys.SurveySteps.{RowVisited}
use Rattle.lf_barrier.proofs.survey.Survey.visit_row.Given as goal

abbrev pub invariant-loop-turn : goal.invariant-loop-turn
invariant-loop-turn g l = RowVisited (g.S.Store.rows l.store) l.regions l.place.home l.place.old (fields_at (g.S.Store.rows l.store) l.p) l.last l._turn l.fn.self l.self
