-- What the calls of a table make of its list.
use Rattle.std.specs.Prelude.{Bool, List, false, filter, map, not, ℕ, [], ◌∷◌, if◌then◌else◌}
use Rattle.lf_base.specs.declared.ids.ObjId.{ObjId}
use Rattle.lf_base.specs.Names.{name_below, same_name}
use Rattle.lf_regions.specs.declared.region.Region.{Region}

-- a region as it is made: without borrows and owner
abbrev pub new_region : ObjId → Region
new_region r = record { name = r; borrowed = 0; owned = false }

-- the regions with a new one of this name, ahead of the first greater name
abbrev pub with_region : List Region → ObjId → List Region
with_region [] r = new_region r ∷ []
with_region (region ∷ regions) r =
    if name_below r region.name then new_region r ∷ region ∷ regions else region ∷ with_region regions r

-- the regions but the one of this name
abbrev pub without_region : List Region → ObjId → List Region
without_region regions r = filter (λ region. not (same_name region.name r)) regions

-- the region with this number where it has this name, and else as it is
abbrev pub borrowed_at : ObjId → ℕ → Region → Region
borrowed_at r number region = if same_name region.name r then record region { borrowed = number } else region

-- the region with this flag where it has this name, and else as it is
abbrev pub owned_at : ObjId → Bool → Region → Region
owned_at r owned region = if same_name region.name r then record region { owned = owned } else region

-- the regions with this number at the one of this name
abbrev pub with_borrowed : List Region → ObjId → ℕ → List Region
with_borrowed regions r number = map (borrowed_at r number) regions

-- the regions with this flag at the one of this name
abbrev pub with_owned : List Region → ObjId → Bool → List Region
with_owned regions r owned = map (owned_at r owned) regions
