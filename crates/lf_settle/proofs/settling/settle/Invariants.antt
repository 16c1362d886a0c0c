use Rattle.lf_base.specs.PlainState.{State}
use Rattle.lf_graph.specs.StoredRows.{plain, rows_by_name}
use Rattle.lf_settle.specs.Drops.{SameCapacity, left_to_do}
use Rattle.lf_settle.specs.SettledStates.{CanSettle}
use Rattle.lf_settle.specs.Walks.{Going}
use Rattle.lf_settle.proofs.settling.settle.Given as goal

abbrev pub invariant-loop-suspect : goal.invariant-loop-suspect
invariant-loop-suspect g l = record {
  going : (s : State) → CanSettle (g.S.Store.rows l.fn.store) l.fn.regions l.fn.work s → Going s (g.S.Store.rows l.store) l.regions l.fn.work l.work l.fn.steps l.steps;
  capacity : SameCapacity l.fn.work l.work;
}

abbrev pub decreases-loop-suspect : goal.decreases-loop-suspect
decreases-loop-suspect g l = left_to_do l.work (rows_by_name (plain (g.S.Store.rows l.store)))
