-- What rows tell of their regions: the name of each, which region owns it, and how many rows it has.
use Rattle.std.specs.Prelude.{List, None, Option, Some, [], cond, filter, length, map, ◌∷◌}
use Rattle.std.specs.Option.{option_or}
use Rattle.lf_base.specs.declared.ids.ObjId.{ObjId}
use Rattle.lf_base.specs.declared.values.Owner.{Owner}
use Rattle.lf_base.specs.declared.values.Owner.TheVariants.{Frozen, In, Local}
use Rattle.lf_base.specs.Edges.{field_targets}
use Rattle.lf_base.specs.MergeResult.{lies_in}
use Rattle.lf_base.specs.Names.{same_name}
use Rattle.lf_base.specs.Owners.{has_name, is_bridge, names}
use Rattle.lf_base.specs.PlainState.{Row}
use Rattle.lf_parcel.specs.declared.heads.RegionHead.{RegionHead}

-- the bridges among the rows
abbrev pub bridges_in : List Row → List ObjId
bridges_in rows = filter (is_bridge rows) (names rows)

-- the region in which a row of that owner lies, where it is another one than q
abbrev pub region_beside : ObjId → Owner → Option ObjId
region_beside q (In r) = cond (same_name r q) None (Some r)
region_beside q Local = None
region_beside q Frozen = None

-- the region that owns q by the row: the row names q, and lies in another region
abbrev pub owner_by_row : ObjId → Row → Option ObjId
owner_by_row q x = cond (has_name (field_targets x.fields) q) (region_beside q x.owner) None

-- the region that owns q by one of the rows
abbrev pub owning_region : List Row → ObjId → Option ObjId
owning_region [] q = None
owning_region (x ∷ xs) q = option_or (owner_by_row q x) (owning_region xs q)

-- what is told of region q of a closed tree: nothing borrows it, and no region below it is open
abbrev pub region_head : List Row → ObjId → RegionHead
region_head rows q = record {
  name = q;
  owner = owning_region rows q;
  borrowed = 0;
  open_children = 0;
  rows = length (filter (lies_in q) rows);
}

-- what is told of all of them, by rising name
abbrev pub region_heads : List Row → List RegionHead
region_heads rows = map (region_head rows) (bridges_in rows)
