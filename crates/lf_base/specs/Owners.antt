-- Rows found by name, and their owners.
use Rattle.std.specs.Prelude.{Bool, List, None, Option, Some, [], cond, false, filter, map, true, ◌||◌, ◌∷◌}
use Rattle.std.specs.List.{list_any}
use Rattle.lf_base.specs.declared.ids.ObjId.{ObjId}
use Rattle.lf_base.specs.declared.values.Owner.{Owner}
use Rattle.lf_base.specs.declared.values.Owner.TheVariants.{Frozen, In, Local}
use Rattle.lf_base.specs.declared.values.Value.{Value}
use Rattle.lf_base.specs.Names.{same_name, targets_of_value}
use Rattle.lf_base.specs.PlainState.{Row, State}

-- the names of the rows
abbrev pub names : List Row → List ObjId
names rows = map (λ r. r.name) rows

-- the name stands in the list
abbrev pub has_name : List ObjId → ObjId → Bool
has_name os o = list_any (λ p. same_name p o) os

-- some row has the name
abbrev pub has_row : List Row → ObjId → Bool
has_row rows o = list_any (λ r. same_name r.name o) rows

-- the row of that name
abbrev pub row_at : List Row → ObjId → Option Row
row_at [] o = None
row_at (r ∷ rs) o = cond (same_name r.name o) (Some r) (row_at rs o)

-- the owner of a row, where there is one
abbrev pub row_owner : Option Row → Option Owner
row_owner None = None
row_owner (Some r) = Some (r.owner)

-- the owner of the row of that name
abbrev pub owner_in : List Row → ObjId → Option Owner
owner_in rows o = row_owner (row_at rows o)

-- the owner is Local
abbrev pub is_local_at : Option Owner → Bool
is_local_at (Some Local) = true
is_local_at _ = false

-- the owner is the region r
abbrev pub is_in : ObjId → Option Owner → Bool
is_in r (Some (In q)) = same_name r q
is_in r _ = false

-- r is the bridge of a region: its row lies in the region that it names
abbrev pub is_bridge : List Row → ObjId → Bool
is_bridge rows r = is_in r (owner_in rows r)

-- the bridges of the state
abbrev pub bridges : State → List ObjId
bridges s = filter (is_bridge s.rows) (names s.rows)

-- the owner that was found, or else Frozen where the name is a frozen row's
abbrev pub or_frozen : Bool → Option Owner → Option Owner
or_frozen b (Some w) = Some w
or_frozen true None = Some Frozen
or_frozen false None = None

-- the owner of the row of that name, mutable or frozen
abbrev pub owner_of : State → ObjId → Option Owner
owner_of s o = or_frozen (has_row s.given o || has_row s.own o) (owner_in s.rows o)

-- the first object, where it is a bridge
abbrev pub first_bridge : State → List ObjId → Option ObjId
first_bridge s [] = None
first_bridge s (o ∷ os) = cond (is_bridge s.rows o) (Some o) None

-- the bridge that a value refers to, where it refers to one
abbrev pub bridge_of : State → Value → Option ObjId
bridge_of s v = first_bridge s (targets_of_value v)
