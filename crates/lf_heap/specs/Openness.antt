-- What lies below a region, found by its rows.
use Rattle.std.specs.Prelude.{Bool, List, Option, cond, count_by, false, filter, length, ltb, map, reverse, true, ◌+◌, ◌++◌, ◌<◌, ◌≡◌, ◌≤◌}
use Rattle.std.specs.List.{list_any}
use Rattle.lf_base.specs.declared.ids.ObjId.{ObjId}
use Rattle.lf_base.specs.declared.values.Value.{Value}
use Rattle.lf_base.specs.Edges.{Edge, Slot, edges}
use Rattle.lf_base.specs.Ownership.{Above}
use Rattle.lf_base.specs.PlainChanges.{with_slots}
use Rattle.lf_base.specs.PlainState.{State}
use Rattle.lf_base.specs.Suspects.{Region as region_place}
use Rattle.lf_base.specs.WalkCounts.{borrowed}
use Rattle.lf_barrier.specs.Descents.{is_child, region_targets}
use Rattle.lf_graph.specs.StoredRows.{CountedRow, owner_at}
use Rattle.lf_regions.specs.declared.region.Region.{Region}
use Rattle.lf_regions.specs.Regions.{borrowed_of}
use Rattle.lf_settle.specs.WorkLists.{WorkList}

-- the bridges of regions other than r among objects
abbrev pub children_among : List CountedRow → ObjId → List ObjId → List ObjId
children_among rows r os = filter (λ o. is_child r o (owner_at rows o)) os

-- the bridges of other regions to which the rows of region r refer
abbrev pub children : List CountedRow → ObjId → List ObjId
children rows r = children_among rows r (region_targets rows r)

-- one of the regions is borrowed
abbrev pub some_borrowed : List Region → List ObjId → Bool
some_borrowed regions os = list_any (λ c. ltb 0 (borrowed_of regions c)) os

-- regions were put at the end of the list, in room that was there
pub record Lists (old new : WorkList) (os : List ObjId) : Type 0 where
  pub listed : reverse new.suspects ≡ reverse old.suspects ++ map region_place os
  pub room : new.spare + length os ≡ old.spare

-- of these objects the bridges of regions other than r were listed, and it is told whether one of them is borrowed
pub record Looks (rows : List CountedRow) (regions : List Region) (r : ObjId) (os : List ObjId) (old new : WorkList)
    (found : Bool) : Type 0 where
  pub lists : Lists old new (children_among rows r os)
  pub told : found ≡ some_borrowed regions (children_among rows r os)

-- there is room for the bridges of regions other than r among these objects
abbrev pub HasChildRoom : List CountedRow → ObjId → List ObjId → WorkList → Type 0
HasChildRoom rows r os work = length (children_among rows r os) ≤ work.spare

-- these slots have the edges of those of s but for one to r
abbrev pub LackOneSlot : State → List (Option Value) → ObjId → Type 0
LackOneSlot s slots r = (test : Edge → Bool) →
    count_by test (edges s) ≡ cond (test (record { from = Slot; to = r })) 1 0 + count_by test (edges (with_slots s slots))

-- whether some region below r is borrowed
abbrev pub IsOpenBelow : State → ObjId → Bool → Type 0
IsOpenBelow s r true = (q : ObjId) × (Above s r q × (0 < borrowed s q))
IsOpenBelow s r false = (q : ObjId) → Above s r q → borrowed s q ≡ 0
