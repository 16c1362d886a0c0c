use Rattle.std.proofs.Common.{ap, not, subst, sym, ◌<◌, ◌^◌, ◌∙◌}
use Rattle.lf_heap.proofs.Answered.CountsAsked.{refs_few, refs_none, refs_some}
use Rattle.lf_heap.proofs.questions.refs_of.Goals as goal

pub returns-then-is_none-clause-count : goal.returns-then-is_none-clause-count
returns-then-is_none-clause-count g c regions s d =
    refs_none (g.S.Store.rows c.args.store.now) regions s d c.args.v c.in_ok-o.o c.in_ok-o.ensures c.owner.result c.owner.ensures.owner (c.is_none.ensures ∙ ap not c.if-is_none.true)

pub returns-clause-count : goal.returns-clause-count
returns-clause-count g c regions s d =
    refs_some (g.S.Store.rows c.args.store.now) regions s d c.args.v c.in_ok-o.o c.in_ok-o.ensures c.owner.result c.refs.result c.owner.ensures.owner (c.is_none.ensures ∙ ap not c.if-is_none.false) c.refs.ensures.refs

pub returns-clause-few : goal.returns-clause-few
returns-clause-few g c regions s d =
    subst (λ n. n < 2 ^ 63) (sym c.refs.ensures.refs) (refs_few (g.S.Store.rows c.args.store.now) regions s d c.in_ok-o.o c.owner.result c.owner.ensures.owner (c.is_none.ensures ∙ ap not c.if-is_none.false))
