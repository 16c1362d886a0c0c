-- A region tree by itself, and when stored rows are such a tree.
use Rattle.std.specs.Prelude.{List, flat_map, length, map, true, ◌<◌, ◌^◌, ◌≡◌}
use Rattle.lf_base.specs.declared.ids.CownId.{CownId}
use Rattle.lf_base.specs.declared.ids.ObjId.{ObjId}
use Rattle.lf_base.specs.declared.values.Owner.TheVariants.{In}
use Rattle.lf_base.specs.declared.values.Value.TheVariants as value
use Rattle.lf_base.specs.ContentTrees.{refs_in}
use Rattle.lf_base.specs.Owners.{is_bridge}
use Rattle.lf_base.specs.PlainState.{Row}
use Rattle.lf_base.specs.Sets.{Member}
use Rattle.lf_base.specs.WholeContents.{StandsAlone}
use Rattle.lf_graph.specs.StoredRows.{AreRowsOf, CountedRow, HasRow, plain, refs_at, rows_by_name}
use Rattle.lf_parcel.specs.declared.heads.RegionHead.{RegionHead}
use Rattle.lf_parcel.specs.Heads.{bridges_in, region_heads}

-- what contracts see of a parcel: the name of its first region, and its rows by rising name
pub record RegionTree : Type 0 where
  pub root : ObjId
  pub rows : List Row

-- the rows are one whole tree of closed regions with that root: it stands alone behind any cown
pub record IsRegionTree (root : ObjId) (rows : List Row) : Type 0 where
  pub root_there : is_bridge rows root ≡ true
  pub stands : (c : CownId) → StandsAlone c (record { value = value.Obj root; rows = rows })

-- a region out of its store: its name, and its rows in their order
pub record StoredRegion : Type 0 where
  pub region : ObjId
  pub rows : List CountedRow

-- parts of a store, seen so
abbrev pub parts_seen : {P : Type 0} → (P → ObjId) → (P → List CountedRow) → List P → List StoredRegion
parts_seen region_of rows_of parts = map (λ part. record { region = region_of part; rows = rows_of part }) parts

-- the rows of all parts
abbrev pub rows_of_parts : List StoredRegion → List CountedRow
rows_of_parts parts = flat_map (λ part. part.rows) parts

-- the same by rising name, without their counts
abbrev pub rows_seen : List StoredRegion → List Row
rows_seen parts = rows_by_name (plain (rows_of_parts parts))

-- the names of their regions
abbrev pub regions_of_parts : List StoredRegion → List ObjId
regions_of_parts parts = map (λ part. part.region) parts

-- each row of a part lies in the part's region, and a u32 numbers the rows
pub record IsPart (part : StoredRegion) : Type 0 where
  pub inside : (c : CountedRow) → Member c part.rows → (c.row).owner ≡ In part.region
  pub few : length part.rows < 2 ^ 32

abbrev pub ArePartsOfRegions : List StoredRegion → Type 0
ArePartsOfRegions parts = (part : StoredRegion) → Member part parts → IsPart part

-- the parts are those of such a tree, one for each region by rising name, with the counts of its rows alone and one further
-- reference to the root; and this is told of the regions
pub record IsParcel (told : List RegionHead) (parts : List StoredRegion) (root : ObjId) (rows : List Row) : Type 0 where
  pub heads_are : told ≡ region_heads rows
  pub regions_are : regions_of_parts parts ≡ bridges_in rows
  pub each : ArePartsOfRegions parts
  pub are : AreRowsOf (rows_of_parts parts) rows
  pub tree : IsRegionTree root rows
  pub refs : (o : ObjId) → HasRow (rows_of_parts parts) o → refs_at (rows_of_parts parts) o ≡ refs_in rows root o
