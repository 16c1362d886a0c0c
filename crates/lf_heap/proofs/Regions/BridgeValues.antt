-- A value that is a bridge, and what it names.
use Rattle.std.proofs.Common.{None, Some, cond, false, true, ◌++◌, ◌≡◌}
use Rattle.lf_base.specs.declared.ids.ObjId.{ObjId}
use Rattle.lf_base.specs.declared.values.Owner.TheVariants.{In}
use Rattle.lf_base.specs.declared.values.Value.{Value}
use Rattle.lf_base.specs.declared.values.Value.TheVariants.{Obj}
use Rattle.lf_base.specs.Edges.{Edge, Slot, rows_edges, slot_edges}
use Rattle.lf_base.specs.Kept.{points}
use Rattle.lf_base.specs.Names.{same_name, targets_of_value}
use Rattle.lf_base.specs.Noticing.{InSlot}
use Rattle.lf_base.specs.Owners.{bridge_of, is_bridge, owner_in}
use Rattle.lf_base.specs.PlainState.{State}
use Rattle.lf_base.proofs.ListLemmas.Members.{Member_any, Member_left}
use Rattle.lf_base.proofs.NameLemmas.SameNames.{same_name_itself}
use Rattle.lf_laws.proofs.Rows.OwnerTests.{in_region}
use Rattle.lf_transfer.proofs.States.Refusals.{bridge_found}

-- it is the object of that name
pub bridge_value : (s : State) (v : Value) (r : ObjId) → bridge_of s v ≡ Some r → v ≡ Obj r
bridge_value s (Obj o) r = elim (is_bridge s.rows o) as (λ b. cond b (Some o) None ≡ Some r → Obj o ≡ Obj r) [
  | true ↦ by o r
  | false ↦ λ e. absurd (cc)
] where
  by : (p q : ObjId) → Some p ≡ Some q → Obj p ≡ Obj q
  by p q e = cc
bridge_value s _ r = λ e. absurd (cc)

-- which lies in the region that it names
pub bridge_lies : (s : State) (v : Value) (r : ObjId) → bridge_of s v ≡ Some r → owner_in s.rows r ≡ Some (In r)
bridge_lies s v r e = in_region r (owner_in s.rows r) (bridge_found s (targets_of_value v) r e)

-- an object that a slot names is pointed to
pub slot_points : (s : State) (o : ObjId) → InSlot s o → points s.rows s o ≡ true
slot_points s o m =
    let e : Edge = record { from = Slot; to = o } in
    Member_any (λ (d : Edge). same_name d.to o) e (slot_edges s.slots ++ rows_edges s.rows) (Member_left e (slot_edges s.slots) (rows_edges s.rows) m) (same_name_itself o)
