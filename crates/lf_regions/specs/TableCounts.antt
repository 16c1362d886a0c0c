-- What a table of regions keeps of rows and of edges: the bridges, how many edges borrow each region, and which are owned.
use Rattle.std.specs.Prelude.{Bool, List, count_by, true, ◌&&◌, ◌≡◌}
use Rattle.std.specs.List.{list_any}
use Rattle.lf_base.specs.declared.ids.ObjId.{ObjId}
use Rattle.lf_base.specs.Edges.{Edge}
use Rattle.lf_base.specs.Names.{same_name}
use Rattle.lf_base.specs.Owners.{is_bridge}
use Rattle.lf_base.specs.Ownership.{is_owning}
use Rattle.lf_base.specs.PlainState.{Row}
use Rattle.lf_base.specs.WalkCounts.{borrows}
use Rattle.lf_regions.specs.declared.region.Region.{Region}
use Rattle.lf_regions.specs.Regions.{borrowed_of, has_region, owned_of}

-- the edge owns region r: it leads to the bridge r from a row of another region, or from a content
abbrev pub owns_region : List Row → ObjId → Edge → Bool
owns_region of r e = is_owning of e.from r && same_name e.to r

-- the table has a region for each bridge among the rows, with the number of these edges that borrow it, and whether one owns it
pub record IsTableOf (table : List Region) (of : List Row) (es : List Edge) : Type 0 where
  pub regions : (r : ObjId) → has_region table r ≡ is_bridge of r
  pub borrowed : (r : ObjId) → is_bridge of r ≡ true → borrowed_of table r ≡ count_by (borrows of r) es
  pub owned : (r : ObjId) → is_bridge of r ≡ true → owned_of table r ≡ list_any (owns_region of r) es
