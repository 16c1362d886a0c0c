-- A list of regions by rising name, and what it says of a name.
use Rattle.std.specs.Prelude.{Bool, List, Option, false, find, map, ℕ}
use Rattle.std.specs.List.{list_any}
use Rattle.std.specs.Option.{option_map_or}
use Rattle.lf_base.specs.declared.ids.ObjId.{ObjId}
use Rattle.lf_base.specs.Names.{name_below, same_name}
use Rattle.lf_base.specs.Sets.{InOrder}
use Rattle.lf_regions.specs.declared.region.Region.{Region}

-- the names of the regions
abbrev pub region_names : List Region → List ObjId
region_names regions = map (λ region. region.name) regions

-- the regions stand by rising name, so that none is there twice
abbrev pub InNameOrder : List Region → Type 0
InNameOrder regions = InOrder name_below (region_names regions)

-- a region of this name is in the list
abbrev pub has_region : List Region → ObjId → Bool
has_region regions r = list_any (λ region. same_name region.name r) regions

-- the region of this name, if it is in the list
abbrev pub region_named : List Region → ObjId → Option Region
region_named regions r = find (λ region. same_name region.name r) regions

-- the number of the region of this name, and 0 where there is none
abbrev pub borrowed_of : List Region → ObjId → ℕ
borrowed_of regions r = option_map_or (λ region. region.borrowed) (region_named regions r) 0

-- the flag of the region of this name, and false where there is none
abbrev pub owned_of : List Region → ObjId → Bool
owned_of regions r = option_map_or (λ region. region.owned) (region_named regions r) false
