-- Where the rows of parts stand, and how one is found by its place among all names. No public clause cites this module.
use Rattle.std.specs.Prelude.{List, None, Option, Some, [], map, option_and_then, slice_get, true, false, ℕ, if◌then◌else◌, ◌≡◌, ◌⊎◌}
use Rattle.lf_base.specs.declared.ids.ObjId.{ObjId}
use Rattle.lf_base.specs.Names.{name_below}
use Rattle.lf_base.specs.Owners.{names}
use Rattle.lf_base.specs.PlainState.{Row}
use Rattle.lf_base.specs.Sets.{Member}
use Rattle.lf_frozen.specs.FrozenRows.{comes_after}
use Rattle.lf_graph.specs.StoredRows.{CountedRow, plain}
use Rattle.lf_parcel.specs.declared.heads.RegionHead.{RegionHead}
use Rattle.lf_parcel.specs.declared.spots.Spot.{Spot}
use Rattle.lf_parcel.specs.Parcels.{IsParcel, StoredRegion}

-- the row at a spot
abbrev pub row_by_spot : List StoredRegion → Spot → Option CountedRow
row_by_spot parts spot = option_and_then (λ part. slice_get part.rows spot.at) (slice_get parts spot.part)

-- at the place among these rows there is one of that name
pub record StandsAt (rows : List CountedRow) (spot : Spot) : Type 0 where
  pub row : CountedRow
  pub there : slice_get rows spot.at ≡ Some row
  pub name : (row.row).name ≡ spot.name

-- the spot leads to a row of its name
pub record Leads (parts : List StoredRegion) (spot : Spot) : Type 0 where
  pub row : CountedRow
  pub there : row_by_spot parts spot ≡ Some row
  pub name : (row.row).name ≡ spot.name

abbrev pub EachLeads : List StoredRegion → List Spot → Type 0
EachLeads parts spots = (spot : Spot) → Member spot spots → Leads parts spot

-- the names of spots, and of stored rows
abbrev pub spot_names : List Spot → List ObjId
spot_names spots = map (λ spot. spot.name) spots

abbrev pub stored_names : List CountedRow → List ObjId
stored_names rows = names (plain rows)

-- the spots lead to the rows by rising name
pub record IsRowOrder (parts : List StoredRegion) (order : List Spot) (rows : List Row) : Type 0 where
  pub names_are : spot_names order ≡ names rows
  pub leads : EachLeads parts order

-- such an order is there, or none was made
abbrev pub MayHaveOrder : List StoredRegion → List Spot → List Row → Type 0
MayHaveOrder parts order rows = (order ≡ []) ⊎ IsRowOrder parts order rows

-- the name that was found is the least one above that one
abbrev pub IsLeastAbove : List ObjId → Option ObjId → Option ObjId → Type 0
IsLeastAbove os after None = (o : ObjId) → Member o os → comes_after after o ≡ false
IsLeastAbove os after (Some least) =
    Member least os
    × ((comes_after after least ≡ true)
    × ((o : ObjId) → Member o os → comes_after after o ≡ true → name_below o least ≡ false))

-- the lesser one of two names, where both are there
abbrev pub lesser_name : Option ObjId → Option ObjId → Option ObjId
lesser_name None found = found
lesser_name (Some o) None = Some o
lesser_name (Some o) (Some q) = Some (if name_below o q then o else q)

-- the name of a spot, where there is one
abbrev pub name_found : Option Spot → Option ObjId
name_found None = None
name_found (Some spot) = Some (spot.name)

-- the spot of the least name above that one among the rows of a part
pub record LeastInPart (rows : List CountedRow) (place : ℕ) (after : Option ObjId) (found : Option Spot) : Type 0 where
  pub least : IsLeastAbove (stored_names rows) after (name_found found)
  pub there : (spot : Spot) → found ≡ Some spot → (spot.part ≡ place) × StandsAt rows spot

-- the same among the rows of some parts, the spot being one of all parts
pub record LeastOfParts (all : List StoredRegion) (rows : List CountedRow) (after : Option ObjId) (found : Option Spot) : Type 0 where
  pub least : IsLeastAbove (stored_names rows) after (name_found found)
  pub there : (spot : Spot) → found ≡ Some spot → Leads all spot

-- the spot leads to the row at a place of the names; none past the end
abbrev pub IsSpotAt : List StoredRegion → List Row → ℕ → Option Spot → Type 0
IsSpotAt parts rows at None = slice_get (names rows) at ≡ None
IsSpotAt parts rows at (Some spot) = Leads parts spot × (slice_get (names rows) at ≡ Some (spot.name))

-- what a parcel keeps
pub record KeepsParcel (told : List RegionHead) (parts : List StoredRegion) (spots : List Spot) (root : ObjId)
    (rows : List Row) : Type 0 where
  pub parcel : IsParcel told parts root rows
  pub order : MayHaveOrder parts spots rows
