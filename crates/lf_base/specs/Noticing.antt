-- What holds of the suspects between the losses and the writes of one instruction.
use Rattle.std.specs.Prelude.{List, Some, false, ◌≡◌}
use Rattle.lf_base.specs.declared.ids.ObjId.{ObjId}
use Rattle.lf_base.specs.declared.values.Key.{Key}
use Rattle.lf_base.specs.declared.values.Owner.{Owner}
use Rattle.lf_base.specs.declared.values.Owner.TheVariants.{In, Local}
use Rattle.lf_base.specs.declared.values.Value.{Value}
use Rattle.lf_base.specs.Edges.{Slot, slot_edges, slot_targets}
use Rattle.lf_base.specs.Kept.{points}
use Rattle.lf_base.specs.Names.{same_name}
use Rattle.lf_base.specs.Owners.{is_in, owner_in, row_at}
use Rattle.lf_base.specs.PlainState.{State}
use Rattle.lf_base.specs.Sets.{Member}
use Rattle.lf_base.specs.Settling.{WatchedBy}
use Rattle.lf_base.specs.Suspects.{Bare, Object, Suspect}
use Rattle.lf_base.specs.TakeResult.{row_field}
use Rattle.lf_base.specs.WriteResult.{write_result}

-- whatever nothing justifies is watched, and an inner row without an edge is a suspect whether its bridge stays or not;
-- so a further loss needs no look at what stays
pub record Noticed (s : State) (w : List Suspect) : Type 0 where
  pub locals : (o : ObjId) → owner_in s.rows o ≡ Some Local → points s.rows s o ≡ false → Member (Object o) w
  pub regions : (r : ObjId) → owner_in s.rows r ≡ Some (In r) → Bare s r → WatchedBy s w r
  pub inners : (o r : ObjId) → owner_in s.rows o ≡ Some (In r) → same_name r o ≡ false → points s.rows s o ≡ false → Member (Object o) w

-- the objects that field k of x names: one or none
abbrev pub field_names : State → ObjId → Key → List ObjId
field_names s x k = slot_targets (row_field (row_at s.rows x) k)

-- nothing points to the object any more, which is no bridge, or its region has neither owner nor borrow
pub data Lone (s : State) (o : ObjId) : Type 0 where
  unpointed : (w : Owner) → owner_in s.rows o ≡ Some w → is_in o (Some w) ≡ false → points s.rows s o ≡ false → Lone s o
  bared : (r : ObjId) → owner_in s.rows o ≡ Some (In r) → Bare s r → Lone s o

-- what the field named is a suspect, where the write leaves it alone
abbrev pub NoticesOld : State → ObjId → Key → Value → List Suspect → Type 0
NoticesOld s x k v w = (o : ObjId) → Member o (field_names s x k) → Lone (write_result s x k v) o → Member (Object o) w

-- the target's region is watched, where the write leaves it bare
abbrev pub WatchesHome : State → ObjId → Key → Value → List Suspect → Type 0
WatchesHome s x k v w = (home : ObjId) → owner_in s.rows x ≡ Some (In home) → Bare (write_result s x k v) home
    → WatchedBy (write_result s x k v) w home

-- a slot names the object
abbrev pub InSlot : State → ObjId → Type 0
InSlot s x = Member (record { from = Slot; to = x }) (slot_edges s.slots)
