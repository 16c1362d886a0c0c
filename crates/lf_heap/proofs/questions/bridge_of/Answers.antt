use Rattle.std.proofs.Common.{◌∙◌}
use Rattle.lf_heap.proofs.Answered.CountsAsked.{bridge_told}
use Rattle.lf_heap.proofs.questions.bridge_of.Goals as goal

pub returns : goal.returns
returns g c regions s d = c.bridge_at.ensures ∙ bridge_told (g.S.Store.rows c.args.store.now) regions s d c.args.v c.in_ok-o.o c.in_ok-o.ensures c.owner.result c.owner.ensures.owner
