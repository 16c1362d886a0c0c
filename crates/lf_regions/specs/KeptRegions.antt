-- How a slab and an index keep a list of regions. No public clause cites this module.
use Rattle.std.specs.Prelude.{List, None, Option, Some, length, map, unwrap_or, ℕ, ◌≡◌}
use Rattle.std.specs.HashMap.{HashMap}
use Rattle.std.specs.HashMap as hash
use Rattle.std.specs.Map.{keys_of, lookup}
use Rattle.std.specs.declared.ops.Bound.{Bound}
use Rattle.std.specs.declared.ops.Bound.TheVariants.{Excluded, Unbounded}
use Rattle.slab.specs.Slab.{Slab, get, slab_len}
use Rattle.lf_base.specs.declared.ids.ObjId.{ObjId}
use Rattle.lf_base.specs.Names.{name_below, same_name}
use Rattle.lf_base.specs.Sets.{InOrder, Member}
use Rattle.lf_regions.specs.declared.region.Region.{Region}
use Rattle.lf_regions.specs.RegionChanges.{new_region}

-- a name, and the key of its region in the slab
abbrev pub Entry : Type 0
Entry = ObjId × ℕ

-- the region to which an entry leads
abbrev pub region_at : Slab Region → Entry → Region
region_at slab entry = unwrap_or (get slab entry.1) (new_region entry.0)

-- the regions to which the entries lead
abbrev pub regions_at : Slab Region → List Entry → List Region
regions_at slab entries = map (region_at slab) entries

-- each entry leads to a region, which has its name; the names rise, and the slab has no other region
pub record KeepsRegions (slab : Slab Region) (entries : List Entry) : Type 0 where
  pub here : (entry : Entry) → Member entry entries → get slab entry.1 ≡ Some (region_at slab entry)
  pub named : (entry : Entry) → Member entry entries → (region_at slab entry).name ≡ entry.0
  pub rise : InOrder name_below (keys_of entries)
  pub count : slab_len slab ≡ length entries

-- the place in the slab of the region of that name
abbrev pub slab_place_of : {S : Type 0} → HashMap ObjId ℕ S → ObjId → Option ℕ
slab_place_of places r = hash.get same_name places r

-- the same by name in a map and in order in another one
pub record KeepsPlaces {S : Type 0} (slab : Slab Region) (places : HashMap ObjId ℕ S) (entries : List Entry) : Type 0 where
  pub kept : KeepsRegions slab entries
  pub leads : (r : ObjId) → slab_place_of places r ≡ lookup (λ name. same_name name r) entries

-- where the names above that one begin
abbrev pub start_above : Option ObjId → Bound ObjId
start_above None = Unbounded
start_above (Some after) = Excluded after
