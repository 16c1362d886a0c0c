use Rattle.std.proofs.Common.{List, Option, length, ℕ}
use Rattle.lf_base.specs.declared.ids.ObjId.{ObjId as Name}
use Rattle.lf_base.specs.declared.values.Owner.TheVariants.{Local}
use Rattle.lf_base.specs.declared.values.Value.{Value as Content}
use Rattle.lf_base.specs.CloseResult.{leads_into}
use Rattle.lf_base.specs.PlainState.{State}
use Rattle.lf_base.specs.Sets.{Member}
use Rattle.lf_graph.specs.Room.{LowersNone}
use Rattle.lf_graph.specs.RowOrder.{SameOrder, names_under}
use Rattle.lf_graph.specs.StoredRows.{fields_at}
use Rattle.lf_transfer.specs.Closing.{AreFieldsShut, Closing}
use Rattle.lf_transfer.specs.LooseNames.{LooseNames}
use Rattle.lf_transfer.proofs.Closings.LocalRows.{LocalWalk, names_from}
use Rattle.lf_transfer.proofs.closed_fields.close_rows.Given as goal

abbrev pub invariant-loop-next : goal.invariant-loop-next
invariant-loop-next g l = record {
  closing : (s : State) (at : ℕ) (r : Name) (before : LooseNames) (slots : List (Option Content))
      → Closing s at r l.fn.within.keys before (g.S.Store.rows l.fn.store) l.fn.regions slots l.fn.names
      → Closing s at r l.fn.within.keys before (g.S.Store.rows l.store) l.regions slots l.names;
  walk : LocalWalk (names_under Local (g.S.Store.rows l.fn.store)) l.next;
  shut : (s : State) (at : ℕ) (r : Name) (before : LooseNames) (slots : List (Option Content))
      → Closing s at r l.fn.within.keys before (g.S.Store.rows l.fn.store) l.fn.regions slots l.fn.names
      → (p : Name) → Member p walk.done → AreFieldsShut (leads_into s r) (fields_at (g.S.Store.rows l.store) p);
  room : LowersNone (g.S.Store.spare l.fn.store) (g.S.Store.spare l.store);
  order : SameOrder (g.S.Store.rows l.store) (g.S.Store.rows l.fn.store);
}

abbrev pub decreases-loop-next : goal.decreases-loop-next
decreases-loop-next g l = length (names_from l.next (names_under Local (g.S.Store.rows l.fn.store)))
