-- Losses of edges: what is justified in a state, and what two states have in common one of which has lost edges of the other.
use Rattle.std.specs.Prelude.{Bool, List, Some, [], cond, count_by, false, length, ltb, map, sum_by, true, ℕ, ◌++◌, ◌+◌, ◌-◌, ◌<◌, ◌≡◌, ◌≤◌}
use Rattle.lf_base.specs.declared.ids.ObjId.{ObjId}
use Rattle.lf_base.specs.declared.values.Owner.{Owner}
use Rattle.lf_base.specs.declared.values.Owner.TheVariants.{In}
use Rattle.lf_base.specs.EdgeLists.{SameEdges}
use Rattle.lf_base.specs.Edges.{Edge, edges}
use Rattle.lf_base.specs.Kept.{kept_rows}
use Rattle.lf_base.specs.Owners.{bridges, is_bridge, is_in, names, owner_in}
use Rattle.lf_base.specs.Ownership.{owning_edges}
use Rattle.lf_base.specs.PlainState.{Row, State}
use Rattle.lf_base.specs.Sets.{Member}
use Rattle.lf_base.specs.Suspects.{Object, Suspect}
use Rattle.lf_base.specs.WalkCounts.{borrowed, refs}

-- the region has an owner or a borrow
abbrev pub is_held : State → ObjId → Bool
is_held s r = ltb 0 (owning_edges s r + borrowed s r)

-- an edge leads to the object
abbrev pub has_references : State → ObjId → Bool
has_references s o = ltb 0 (refs s o)

-- the number of rows to which an edge leads and of regions with an owner or a borrow
abbrev pub justified : State → ℕ
justified s = count_by (has_references s) (names s.rows) + count_by (is_held s) (bridges s)

-- rows and their fields together
abbrev pub size : List Row → ℕ
size rows = sum_by (λ (row : Row). 1 + length row.fields) rows

-- how many rows and fields go
abbrev pub dropped : State → ℕ
dropped s = size s.rows - size (kept_rows s)

-- the rows of region r, by their names
abbrev pub of_region : State → ObjId → ObjId → Bool
of_region s r o = is_in r (owner_in s.rows o)

-- the state whose rows of a set have no fields
abbrev pub emptied : State → (ObjId → Bool) → State
emptied s gone = record s { rows = map (λ row. cond (gone row.name) (record row { fields = [] }) row) s.rows }

-- from s to t names and owners stay, and these edges are lost
pub record LosesEdges (s t : State) (lost : List Edge) : Type 0 where
  pub same_names : names t.rows ≡ names s.rows
  pub owners : (o : ObjId) → owner_in t.rows o ≡ owner_in s.rows o
  pub edges : SameEdges (edges s) (lost ++ edges t)

-- a row of the region to which an edge led is a suspect
pub record LostIn (s : State) (r : ObjId) (suspects : List Suspect) : Type 0 where
  pub row : ObjId
  pub inside : owner_in s.rows row ≡ Some (In r)
  pub named : 0 < refs s row
  pub suspect : Member (Object row) suspects

-- from s to t owners stay, and whatever lost its last justification is a suspect
pub record LossesKnown (s t : State) (old new : List Suspect) : Type 0 where
  pub owners : (o : ObjId) → owner_in t.rows o ≡ owner_in s.rows o
  pub rows_lost : (o : ObjId) (w : Owner) → owner_in s.rows o ≡ Some w → 0 < refs s o → refs t o ≡ 0 → Member (Object o) new
  pub regions_lost : (r : ObjId) → is_bridge s.rows r ≡ true → is_held s r ≡ true → is_held t r ≡ false → LostIn s r new
  pub suspects_stay : (u : Suspect) → Member u old → Member u new

-- from s to t edges were lost: whatever lost its last justification is a suspect, and each new suspect comes with such a loss
pub record Loses (s t : State) (old new : List Suspect) : Type 0 where
  pub owners : (o : ObjId) → owner_in t.rows o ≡ owner_in s.rows o
  pub fewer_refs : (o : ObjId) → refs t o ≤ refs s o
  pub fewer_held : (r : ObjId) → is_held t r ≡ true → is_held s r ≡ true
  pub rows_lost : (o : ObjId) (w : Owner) → owner_in s.rows o ≡ Some w → 0 < refs s o → refs t o ≡ 0 → Member (Object o) new
  pub regions_lost : (r : ObjId) → is_bridge s.rows r ≡ true → is_held s r ≡ true → is_held t r ≡ false → LostIn s r new
  pub suspects_stay : (u : Suspect) → Member u old → Member u new
  pub paid : justified t + length new ≤ justified s + length old

-- the object lost its last edge, or its region its last owner or borrow
pub data LostLast (s t : State) (o : ObjId) : Type 0 where
  last_edge : refs t o ≡ 0 → LostLast s t o
  last_of_region : (r : ObjId) → owner_in s.rows o ≡ Some (In r) → is_held s r ≡ true → is_held t r ≡ false → LostLast s t o

-- neither of both: an edge is left to it, and its region has an owner or a borrow still, or had none before
pub record StillJustified (s t : State) (o : ObjId) : Type 0 where
  pub named : 0 < refs t o
  pub held : (r : ObjId) → owner_in s.rows o ≡ Some (In r) → is_held s r ≡ true → is_held t r ≡ true
