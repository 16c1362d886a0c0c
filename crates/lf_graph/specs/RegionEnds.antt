-- The ends of the rows of each region.
use Rattle.std.specs.Prelude.{Option, cond, ◌≡◌}
use Rattle.std.specs.HashMap.{HashMap}
use Rattle.std.specs.HashMap as hash
use Rattle.lf_base.specs.declared.ids.ObjId.{ObjId}
use Rattle.lf_base.specs.Names.{same_name}
use Rattle.lf_graph.specs.declared.ends.Ends.{Ends}

-- the ends of a region's rows, where it has rows
abbrev pub region_ends : {S : Type 0} → HashMap ObjId Ends S → ObjId → Option Ends
region_ends ends r = hash.get same_name ends r

-- only the ends of that region change, or come or go
abbrev pub OnlyRegionAt : {S T : Type 0} → HashMap ObjId Ends S → HashMap ObjId Ends T → ObjId → Option Ends → Type 0
OnlyRegionAt old new region ends = (r : ObjId) → region_ends new r ≡ cond (same_name region r) ends (region_ends old r)
