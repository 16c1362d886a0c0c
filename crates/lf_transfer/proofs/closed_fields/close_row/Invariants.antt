use Rattle.std.proofs.Common.{List, Option, Some, false, length, ℕ, ◌≡◌}
use Rattle.lf_base.specs.declared.ids.ObjId.{ObjId as Name}
use Rattle.lf_base.specs.declared.values.Owner.TheVariants.{Local}
use Rattle.lf_base.specs.declared.values.Value.{Value as Content}
use Rattle.lf_base.specs.CloseResult.{leads_into}
use Rattle.lf_base.specs.Names.{same_name}
use Rattle.lf_base.specs.Owners.{owner_in}
use Rattle.lf_base.specs.PlainState.{State}
use Rattle.lf_graph.specs.Room.{LowersNone}
use Rattle.lf_graph.specs.RowOrder.{SameOrder}
use Rattle.lf_graph.specs.StoredRows.{fields_at}
use Rattle.lf_transfer.specs.Closing.{Closing}
use Rattle.lf_transfer.specs.LooseNames.{LooseNames}
use Rattle.lf_transfer.proofs.Closings.ShutWalks.{ShutWalk}
use Rattle.lf_transfer.proofs.closed_fields.close_row.Given as goal

abbrev pub invariant-loop-turn : goal.invariant-loop-turn
invariant-loop-turn g l = record {
  closing : (s : State) (at : ℕ) (r : Name) (before : LooseNames) (slots : List (Option Content))
      → Closing s at r l.fn.within.keys before (g.S.Store.rows l.fn.store) l.fn.regions slots l.fn.names → owner_in s.rows l.p ≡ Some Local
      → Closing s at r l.fn.within.keys before (g.S.Store.rows l.store) l.regions slots l.names;
  walk : (s : State) (at : ℕ) (r : Name) (before : LooseNames) (slots : List (Option Content))
      → Closing s at r l.fn.within.keys before (g.S.Store.rows l.fn.store) l.fn.regions slots l.fn.names → owner_in s.rows l.p ≡ Some Local
      → ShutWalk (leads_into s r) (fields_at (g.S.Store.rows l.store) l.p) l.last l._turn;
  width : length (fields_at (g.S.Store.rows l.store) l.p) ≡ length (fields_at (g.S.Store.rows l.fn.store) l.p);
  others : (q : Name) → same_name q l.p ≡ false → fields_at (g.S.Store.rows l.store) q ≡ fields_at (g.S.Store.rows l.fn.store) q;
  room : LowersNone (g.S.Store.spare l.fn.store) (g.S.Store.spare l.store);
  order : SameOrder (g.S.Store.rows l.store) (g.S.Store.rows l.fn.store);
}
