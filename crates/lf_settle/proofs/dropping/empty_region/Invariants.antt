use Rattle.std.proofs.Common.{length}
use Rattle.lf_base.specs.declared.values.Owner.TheVariants.{In}
use Rattle.lf_base.specs.PlainState.{State}
use Rattle.lf_graph.specs.RowOrder.{names_under}
use Rattle.lf_settle.specs.Drops.{CanDropRegion, SameCapacity}
use Rattle.lf_settle.specs.Walks.{Sweeping, names_from}
use Rattle.lf_settle.proofs.dropping.empty_region.Given as goal

abbrev pub invariant-loop-next : goal.invariant-loop-next
invariant-loop-next g l = record {
  sweep : (s : State) → CanDropRegion (g.S.Store.rows l.fn.store) l.fn.regions l.fn.work s l.r → Sweeping s l.r l.next (g.S.Store.rows l.store) l.regions l.fn.work l.work l.fn.steps l.steps;
  capacity : SameCapacity l.fn.work l.work;
}

abbrev pub decreases-loop-next : goal.decreases-loop-next
decreases-loop-next g l = length (names_from l.next (names_under (In l.r) (g.S.Store.rows l.store)))
