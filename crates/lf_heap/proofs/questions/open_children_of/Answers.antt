use Rattle.std.proofs.Common.{subst, sym, ◌<◌, ◌^◌}
use Rattle.lf_heap.proofs.Answered.CountsAsked.{children_few}
use Rattle.lf_heap.proofs.Answered.WithoutSlot.{bridge_is}
use Rattle.lf_heap.proofs.questions.open_children_of.Goals as goal

pub returns-clause-few : goal.returns-clause-few
returns-clause-few g c s d few =
    let bridge = bridge_is s c.args.v c.in_ok-r.r (c.in_ok-r.ensures c.args.regions.now s d) in
    subst (λ n. n < 2 ^ 63) (sym (c.open_children.ensures.count s d bridge.inside)) (children_few (g.S.Store.rows c.args.store.now) c.args.regions.now s d c.in_ok-r.r few)
