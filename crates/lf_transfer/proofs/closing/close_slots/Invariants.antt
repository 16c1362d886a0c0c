use Rattle.std.proofs.Common.{length, ◌≡◌}
use Rattle.lf_base.specs.declared.ids.ObjId.{ObjId as Name}
use Rattle.lf_base.specs.CloseResult.{leads_into}
use Rattle.lf_base.specs.PlainState.{State}
use Rattle.lf_graph.specs.Room.{LowersNone}
use Rattle.lf_transfer.specs.Closing.{AreSlotsShut, Closing}
use Rattle.lf_transfer.specs.LooseNames.{LooseNames}
use Rattle.lf_transfer.proofs.closing.close_slots.Given as goal

abbrev pub invariant-loop-at : goal.invariant-loop-at
invariant-loop-at g l = record {
  closing : (s : State) (r : Name) (before : LooseNames)
      → Closing s l.kept r l.fn.within.keys before (g.S.Store.rows l.fn.store) l.fn.regions l.fn.slots l.fn.names
      → Closing s l.kept r l.fn.within.keys before (g.S.Store.rows l.store) l.regions l.slots l.names;
  shut : (s : State) (r : Name) (before : LooseNames)
      → Closing s l.kept r l.fn.within.keys before (g.S.Store.rows l.fn.store) l.fn.regions l.fn.slots l.fn.names
      → AreSlotsShut (leads_into s r) l.kept l.at l.slots;
  slots : length l.slots ≡ length l.fn.slots;
  room : LowersNone (g.S.Store.spare l.fn.store) (g.S.Store.spare l.store);
}
