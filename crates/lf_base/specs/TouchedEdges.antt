-- What a write into a region touches: the edge of the value and those of the rows that move with it.
use Rattle.std.specs.Prelude.{Bool, List, None, Option, Some, [], count_by, false, flat_map, ltb, not, true, ℕ, ◌&&◌, ◌++◌, ◌+◌, ◌<◌, ◌≡◌}
use Rattle.std.specs.Prelude.{◌≤◌}
use Rattle.lf_base.specs.declared.ids.ObjId.{ObjId}
use Rattle.lf_base.specs.declared.values.Key.{Key}
use Rattle.lf_base.specs.declared.values.Owner.{Owner}
use Rattle.lf_base.specs.declared.values.Owner.TheVariants.{In}
use Rattle.lf_base.specs.declared.values.Value.{Value}
use Rattle.lf_base.specs.Edges.{Edge, Field, edges_by, field_targets, slot_targets}
use Rattle.lf_base.specs.MoveSet.{move_set}
use Rattle.lf_base.specs.Names.{same_name}
use Rattle.lf_base.specs.Owners.{has_name, is_bridge, names, owner_in, row_at}
use Rattle.lf_base.specs.Ownership.{below, owning_edges}
use Rattle.lf_base.specs.PlainState.{Row, State}
use Rattle.lf_base.specs.Sets.{Differ}
use Rattle.lf_base.specs.TakeResult.{row_field}
use Rattle.lf_base.specs.WalkCounts.{counted}
use Rattle.lf_base.specs.WellFormed.{SlotMayHold, WellFormed}

-- the fields of a row, where there is one
abbrev pub row_fields : Option Row → List (Key × Value)
row_fields None = []
row_fields (Some r) = r.fields

-- the edges from the rows of these names
abbrev pub edges_from : List Row → List ObjId → List Edge
edges_from rows os = flat_map (λ o. edges_by (Field o) (field_targets (row_fields (row_at rows o)))) os

-- v may be written to x of region home, and the names are those of the rows that move with it, in any order
pub record WritesInto (s : State) (x : ObjId) (v : Value) (home : ObjId) (moving : List ObjId) : Type 0 where
  pub well_formed : WellFormed s
  pub target : owner_in s.rows x ≡ Some (In home)
  pub value : SlotMayHold s v
  pub differ : Differ same_name moving
  pub moves : (o : ObjId) → has_name moving o ≡ has_name (names (move_set s v)) o

-- the edges that such a write puts into the target's region
abbrev pub touched_edges : State → ObjId → Value → List ObjId → List Edge
touched_edges s x v moving = edges_by (Field x) (slot_targets (Some v)) ++ edges_from s.rows moving

-- object o of that owner lies inside a region other than home: it is no bridge
abbrev pub is_inside_other : ObjId → ObjId → Option Owner → Bool
is_inside_other home o (Some (In q)) = not (same_name home q) && not (same_name q o)
is_inside_other home o _ = false

-- the edge leads inside a region other than home
abbrev pub leads_inside_other : List Row → ObjId → Edge → Bool
leads_inside_other rows home e = is_inside_other home e.to (owner_in rows e.to)

-- how often such a write touches object b
abbrev pub touches : State → ObjId → Value → List ObjId → ObjId → ℕ
touches s x v moving b = count_by (λ e. same_name e.to b) (touched_edges s x v moving)

-- b is the bridge of a region other than home
pub record OtherBridge (s : State) (home b : ObjId) : Type 0 where
  pub bridge : is_bridge s.rows b ≡ true
  pub other : same_name home b ≡ false

-- such a write gives no other bridge a second owner: those that it has and those that touch it are one at most, the old value aside
abbrev pub TouchesOnce : State → ObjId → Key → Value → ObjId → List ObjId → Type 0
TouchesOnce s x k v home moving = (b : ObjId) → OtherBridge s home b
    → owning_edges s b + touches s x v moving b ≤ counted b (row_field (row_at s.rows x) k) + 1

-- it gives bridge b a second owner
pub record TouchesTwice (s : State) (x : ObjId) (k : Key) (v : Value) (home : ObjId) (moving : List ObjId) (b : ObjId) : Type 0 where
  pub at : OtherBridge s home b
  pub two : counted b (row_field (row_at s.rows x) k) + 1 < owning_edges s b + touches s x v moving b

-- it touches bridge b of another region
pub record TouchesOther (s : State) (x : ObjId) (v : Value) (home : ObjId) (moving : List ObjId) (b : ObjId) : Type 0 where
  pub at : OtherBridge s home b
  pub touched : 0 < touches s x v moving b

-- such a write gives bridge b of another region a second owner
abbrev pub gives_second_owner : State → ObjId → Key → Value → ObjId → List ObjId → ObjId → Bool
gives_second_owner s x k v home moving b = not (same_name home b)
    && ltb (counted b (row_field (row_at s.rows x) k) + 1) (owning_edges s b + touches s x v moving b)

-- such a write touches bridge b of another region, which is above the target's
abbrev pub closes_round : State → ObjId → Value → ObjId → List ObjId → ObjId → Bool
closes_round s x v home moving b = not (same_name home b) && (ltb 0 (touches s x v moving b) && has_name (below s b) home)
