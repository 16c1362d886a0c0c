-- What has to hold where the edges of one place are counted, or taken out of the counts.
use Rattle.std.specs.Prelude.{Bool, List, None, Option, Some, count_by, false, if◌then◌else◌, length, not, true}
use Rattle.std.specs.Prelude.{◌++◌, ◌<◌, ◌^◌, ◌≡◌, ◌≤◌}
use Rattle.lf_base.specs.declared.ids.ObjId.{ObjId}
use Rattle.lf_base.specs.declared.values.Owner.TheVariants.{In}
use Rattle.lf_base.specs.EdgeLists.{SameEdges}
use Rattle.lf_base.specs.Edges.{Content, Edge, Field, Source, edges_by}
use Rattle.lf_base.specs.Names.{same_name}
use Rattle.lf_base.specs.Owners.{is_bridge, owner_in}
use Rattle.lf_base.specs.PlainState.{Row}
use Rattle.lf_base.specs.Sets.{Member}
use Rattle.lf_base.specs.WalkCounts.{is_borrower}
use Rattle.lf_graph.specs.StoredRows.{CountedRow}
use Rattle.lf_regions.specs.declared.region.Region.{Region}
use Rattle.lf_regions.specs.RegionChanges.{with_owned}
use Rattle.lf_regions.specs.TableCounts.{owns_region}
use Rattle.lf_domain.specs.Counts.{Counts}

-- each row in a region has a bridge, which lies in that region itself
abbrev pub HaveBridges : List Row → Type 0
HaveBridges of = (o r : ObjId) → owner_in of o ≡ Some (In r) → owner_in of r ≡ Some (In r)

-- at most one of these edges owns each region
abbrev pub HasOneOwner : List Row → List Edge → Type 0
HasOneOwner of es = (r : ObjId) → is_bridge of r ≡ true → count_by (owns_region of r) es ≤ 1

-- counts that leave room for one more edge
pub record MayCount (rows : List CountedRow) (regions : List Region) (of : List Row) (es : List Edge) : Type 0 where
  pub counts : Counts rows regions of es
  pub bridges : HaveBridges of
  pub few : length es < 2 ^ 63

-- counts of edges of which those from `from`, a slot or a local row, to `os` may be taken out; `fs` are the other ones
pub record MayUncount (rows : List CountedRow) (regions : List Region) (of : List Row) (es fs : List Edge)
    (from : Source) (os : List ObjId) : Type 0 where
  pub counts : Counts rows regions of es
  pub bridges : HaveBridges of
  pub near : is_borrower of from ≡ true
  pub edges : SameEdges es (edges_by from os ++ fs)

-- the place lies in the region `home`, as a field of one of its rows, or is a content, where no region is given
abbrev pub LiesIn : List Row → Source → Option ObjId → Type 0
LiesIn of (Field p) (Some home) = owner_in of p ≡ Some (In home)
LiesIn of (Content c) None = Unit {0}
LiesIn of _ _ = ⊥

-- the region is another one than `home`; where none is given, each is
abbrev pub is_other_region : Option ObjId → ObjId → Bool
is_other_region None r = true
is_other_region (Some home) r = not (same_name home r)

-- of another region than `home` the objects are the bridge alone
abbrev pub OnlyBridges : List Row → List ObjId → Option ObjId → Type 0
OnlyBridges of os home = (o r : ObjId) → Member o os → owner_in of o ≡ Some (In r) → is_other_region home r ≡ true → r ≡ o

-- counts that leave room for one more edge from a place in the region `home`, or from a content, to `os`
pub record MayCountOwner (rows : List CountedRow) (regions : List Region) (of : List Row) (es : List Edge)
    (from : Source) (os : List ObjId) (home : Option ObjId) : Type 0 where
  pub counts : Counts rows regions of es
  pub bridges : HaveBridges of
  pub lies : LiesIn of from home
  pub leads : OnlyBridges of os home
  pub few : length es < 2 ^ 63

-- counts of edges of which those from a place in the region `home`, or from a content, to `os` may be taken out; `fs` are the other ones
pub record MayUncountOwner (rows : List CountedRow) (regions : List Region) (of : List Row) (es fs : List Edge)
    (from : Source) (os : List ObjId) (home : Option ObjId) : Type 0 where
  pub counts : Counts rows regions of es
  pub bridges : HaveBridges of
  pub lies : LiesIn of from home
  pub leads : OnlyBridges of os home
  pub edges : SameEdges es (edges_by from os ++ fs)
  pub one : HasOneOwner of es

-- region r with that flag, but the region `home` as it is
abbrev pub other_owned : List Region → ObjId → Option ObjId → Bool → List Region
other_owned regions r home owned = if is_other_region home r then with_owned regions r owned else regions

-- no edge leads to the object o, and none begins at its row
abbrev pub NoEdgeOf : List Edge → ObjId → Type 0
NoEdgeOf es o = (e : Edge) → Member e es → (same_name e.to o ≡ false) × ((p : ObjId) → e.from ≡ Field p → same_name p o ≡ false)
