use Rattle.lf_heap.proofs.RegionWalks.ChildrenCounted.{CountingOpen}
use Rattle.lf_heap.proofs.openness.open_children.Given as goal

abbrev pub invariant-loop-at : goal.invariant-loop-at
invariant-loop-at g l = CountingOpen (g.S.Store.rows l.store) l.regions l.fn.r l.fn.found l.at l.count l.found
