use Rattle.std.proofs.Common.{subst, sym, ◌<◌, ◌^◌}
use Rattle.lf_heap.proofs.Answered.CountsAsked.{borrows_answer, borrows_few}
use Rattle.lf_heap.proofs.questions.borrowed_of.Goals as goal

pub returns-clause-count : goal.returns-clause-count
returns-clause-count g c s d = borrows_answer (g.S.Store.rows c.args.store.now) c.args.regions.now s d c.args.v c.in_ok-r.r c.borrowed.result (c.in_ok-r.ensures c.args.regions.now s d) c.borrowed.ensures.number

pub returns-clause-few : goal.returns-clause-few
returns-clause-few g c s d = subst (λ n. n < 2 ^ 63) (sym c.borrowed.ensures.number) (borrows_few (g.S.Store.rows c.args.store.now) c.args.regions.now s d c.in_ok-r.r)
