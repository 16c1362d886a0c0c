-- A close: what it is for, how far it has come, and the inner rows that it leaves without an edge.
use Rattle.std.specs.Prelude.{Bool, List, None, Option, Some, [], cond, eqb, false, length, ltb, map, not, ℕ, ◌&&◌, ◌++◌, ◌+◌, ◌<◌, ◌≡◌, ◌≢◌, ◌≤◌, ◌∷◌}
use Rattle.std.specs.List.{list_any}
use Rattle.lf_base.specs.declared.ids.ObjId.{ObjId}
use Rattle.lf_base.specs.declared.values.Key.{Key}
use Rattle.lf_base.specs.declared.values.Owner.{Owner}
use Rattle.lf_base.specs.declared.values.Owner.TheVariants.{In, Local}
use Rattle.lf_base.specs.declared.values.Value.{Value}
use Rattle.lf_base.specs.declared.values.Value.TheVariants as value
use Rattle.lf_base.specs.CloseResult.{close_result, leads_into}
use Rattle.lf_base.specs.Names.{is_local, same_name, targets_of_value}
use Rattle.lf_base.specs.Owners.{bridge_of, has_name, owner_in}
use Rattle.lf_base.specs.PlainChanges.{put_slot, slot_at}
use Rattle.lf_base.specs.PlainState.{Row, State}
use Rattle.lf_base.specs.Sets.{Differ, Member}
use Rattle.lf_base.specs.WalkCounts.{refs}
use Rattle.lf_base.specs.WriteResult.{put_field}
use Rattle.lf_domain.specs.Counts.{IsDomain}
use Rattle.lf_graph.specs.StoredRows.{CountedRow, fields_at, owner_at, plain, refs_at, rows_by_name}
use Rattle.lf_regions.specs.declared.region.Region.{Region}
use Rattle.lf_transfer.specs.LooseNames.{LooseNames}

-- the store, the table and the slots are those of the state
pub record IsOpenedBy (rows : List CountedRow) (regions : List Region) (slots : List (Option Value)) (s : State) : Type 0 where
  pub domain : IsDomain rows regions s
  pub in_slots : s.slots ≡ slots

-- the slot at the place holds the bridge r
pub record HoldsBridge (s : State) (at : ℕ) (r : ObjId) : Type 0 where
  pub value : Value
  pub held : slot_at s.slots at ≡ Some value
  pub bridge : bridge_of s value ≡ Some r

-- an object of that owner is an inner row
abbrev pub is_inner : ObjId → Option Owner → Bool
is_inner o (Some (In q)) = not (same_name q o)
is_inner o _ = false

-- an inner row to which edges lead in s, and none in t
abbrev pub is_let_loose : State → State → ObjId → Bool
is_let_loose s t o = is_inner o (owner_in s.rows o) && (ltb 0 (refs s o) && eqb (refs t o) 0)

-- the inner rows that lost their last edge from s to t were put on the list, each once
pub record LetsLoose (s t : State) (old new : List ObjId) : Type 0 where
  pub more : List ObjId
  pub grows : new ≡ more ++ old
  pub once : Differ same_name more
  pub each : (o : ObjId) → has_name more o ≡ is_let_loose s t o

-- so it is as far as a close has come, and a name takes room of 1
pub record LooseSoFar (s t : State) (old new : LooseNames) : Type 0 where
  pub names : LetsLoose s t old.names new.names
  pub room : new.spare + length new.names ≡ old.spare + length old.names

-- an object of that owner lies in one of these regions
abbrev pub lies_within : List ObjId → Option Owner → Bool
lies_within within (Some (In q)) = has_name within q
lies_within within _ = false

-- the value refers to a row of one of these regions
abbrev pub leads_within : List CountedRow → List ObjId → Value → Bool
leads_within rows within v = list_any (λ o. lies_within within (owner_at rows o)) (targets_of_value v)

-- the names with those of the objects that are inner rows without an edge
abbrev pub with_loose : List CountedRow → List ObjId → List ObjId → List ObjId
with_loose rows [] names = names
with_loose rows (o ∷ os) names = cond (is_inner o (owner_at rows o) && eqb (refs_at rows o) 0) (o ∷ names) names

-- a value for which the test holds becomes None
abbrev pub shut_value : (Value → Bool) → Value → Value
shut_value leads v = cond (leads v) value.None v

-- so do such slots
abbrev pub shut_slot : (Value → Bool) → Option Value → Option Value
shut_slot leads None = None
shut_slot leads (Some v) = Some (shut_value leads v)

-- and such fields of a local row
abbrev pub shut_fields : (Value → Bool) → Row → Row
shut_fields leads row = cond (is_local row.owner) (record row { fields = map (λ f. (f.0, shut_value leads f.1)) row.fields }) row

-- all slots but the one at the place, and all fields of local rows, that hold such values become None
abbrev pub shut : (Value → Bool) → ℕ → State → State
shut leads at s = record s {
  slots = put_slot (map (shut_slot leads) s.slots) at (slot_at s.slots at);
  rows = map (shut_fields leads) s.rows;
}

-- the state with the rows of the store and with these slots
abbrev pub come_to : State → List CountedRow → List (Option Value) → State
come_to s rows slots = record s { slots = slots; rows = rows_by_name (plain rows) }

-- region r of the state is closed by the slot at a place, as far as the store, the table, the slots and the list have come
pub record Closing (s : State) (at : ℕ) (r : ObjId) (within : List ObjId) (before : LooseNames)
    (rows : List CountedRow) (regions : List Region) (slots : List (Option Value)) (now : LooseNames) : Type 0 where
  pub domain : IsDomain rows regions (come_to s rows slots)
  pub leads : (v : Value) → leads_within rows within v ≡ leads_into s r v
  pub same : shut (leads_into s r) at (come_to s rows slots) ≡ close_result s at r
  pub fewer : (o : ObjId) → refs (come_to s rows slots) o ≤ refs s o
  pub loose : LooseSoFar s (come_to s rows slots) before now
  pub fits : length s.rows ≤ before.spare

-- a slot that holds no value for which the test holds
abbrev pub IsSlotShut : (Value → Bool) → Option Value → Type 0
IsSlotShut leads slot = (v : Value) → slot ≡ Some v → leads v ≡ false

-- so many of the first slots are shut, but for one
abbrev pub AreSlotsShut : (Value → Bool) → ℕ → ℕ → List (Option Value) → Type 0
AreSlotsShut leads kept n slots = (i : ℕ) → i < n → i ≢ kept → IsSlotShut leads (slot_at slots i)

-- fields that hold no value for which the test holds
abbrev pub AreFieldsShut : (Value → Bool) → List (Key × Value) → Type 0
AreFieldsShut leads fields = (f : Key × Value) → Member f fields → leads f.1 ≡ false

-- the fields with the one of that key and that value shut
abbrev pub shut_field_at : (Value → Bool) → List (Key × Value) → Key → Value → List (Key × Value)
shut_field_at leads fields k v = cond (leads v) (put_field fields k value.None) fields

-- no field of a local row holds a value for which the test holds
abbrev pub AreLocalsShut : (Value → Bool) → List CountedRow → Type 0
AreLocalsShut leads rows = (p : ObjId) → owner_at rows p ≡ Some Local → AreFieldsShut leads (fields_at rows p)
