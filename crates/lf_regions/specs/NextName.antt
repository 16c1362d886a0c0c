-- The next name above another one.
use Rattle.std.specs.Prelude.{Bool, List, None, Option, Some, find, true}
use Rattle.lf_base.specs.declared.ids.ObjId.{ObjId}
use Rattle.lf_base.specs.Names.{name_below}
use Rattle.lf_regions.specs.declared.region.Region.{Region}
use Rattle.lf_regions.specs.Regions.{region_names}

-- the name is above that one, where one is given
abbrev pub is_above : Option ObjId → ObjId → Bool
is_above None name = true
is_above (Some after) name = name_below after name

-- the first name of the list that is above that one
abbrev pub next_name : List Region → Option ObjId → Option ObjId
next_name regions after = find (is_above after) (region_names regions)
