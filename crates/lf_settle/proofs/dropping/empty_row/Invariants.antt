use Rattle.lf_base.specs.Losses.{size}
use Rattle.lf_base.specs.PlainState.{State}
use Rattle.lf_graph.specs.RowOrder.{SameOrder}
use Rattle.lf_graph.specs.StoredRows.{plain, rows_by_name}
use Rattle.lf_settle.specs.Drops.{CanEmpty, SameCapacity}
use Rattle.lf_settle.specs.Walks.{Emptying}
use Rattle.lf_settle.proofs.dropping.empty_row.Given as goal

abbrev pub invariant-loop-key : goal.invariant-loop-key
invariant-loop-key g l = record {
  going : (s : State) → CanEmpty (g.S.Store.rows l.fn.store) l.fn.regions l.fn.work s l.o l.owner → Emptying s l.o (g.S.Store.rows l.store) l.regions l.fn.work l.work l.fn.steps l.steps;
  order : SameOrder (g.S.Store.rows l.store) (g.S.Store.rows l.fn.store);
  capacity : SameCapacity l.fn.work l.work;
}

abbrev pub decreases-loop-key : goal.decreases-loop-key
decreases-loop-key g l = size (rows_by_name (plain (g.S.Store.rows l.store)))
