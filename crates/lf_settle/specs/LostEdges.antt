-- The edges of one place are lost: what holds before they are taken out of the counts, and what is noticed.
use Rattle.std.specs.Prelude.{Bool, List, None, Option, Some, [], eqb, false}
use Rattle.std.specs.Prelude.{not, true, ◌&&◌, ◌++◌, ◌∷◌, ◌≡◌, ◌≤◌, ◌⊎◌}
use Rattle.lf_base.specs.declared.ids.ObjId.{ObjId}
use Rattle.lf_base.specs.declared.values.Owner.{Owner}
use Rattle.lf_base.specs.declared.values.Owner.TheVariants.{Frozen, In, Local}
use Rattle.lf_base.specs.EdgeLists.{SameEdges, near_edges}
use Rattle.lf_base.specs.Edges.{Source, edges_by}
use Rattle.lf_base.specs.Losses.{LosesEdges, LostLast, StillJustified}
use Rattle.lf_base.specs.Owners.{owner_in}
use Rattle.lf_base.specs.PlainState.{Row, State}
use Rattle.lf_base.specs.Sets.{Member}
use Rattle.lf_base.specs.Suspects.{Object, Suspect}
use Rattle.lf_base.specs.WalkCounts.{is_borrower}
use Rattle.lf_base.specs.WellFormed.{WellFormed}
use Rattle.lf_domain.specs.Counts.{Counts}
use Rattle.lf_domain.specs.OneEdge.{LiesIn, is_other_region}
use Rattle.lf_graph.specs.StoredRows.{CountedRow}
use Rattle.lf_regions.specs.declared.region.Region.{Region}
use Rattle.lf_regions.specs.Regions.{borrowed_of, owned_of}
use Rattle.lf_settle.specs.SettledStates.{IsCounted}
use Rattle.lf_settle.specs.WorkLists.{WorkList}

-- from s to t the edges of one place to `os`, one or none, are lost
pub record LosesPlace (s t : State) (from : Source) (os : List ObjId) : Type 0 where
  pub before : WellFormed s
  pub after : WellFormed t
  pub lost : LosesEdges s t (edges_by from os)
  pub near : SameEdges (near_edges s) (edges_by from os ++ near_edges t)

-- there is room for a suspect, where one of the objects lost its last justification
abbrev pub HasRoom : State → State → List ObjId → WorkList → Type 0
HasRoom s t os work = (o : ObjId) (w : Owner) → Member o os → owner_in s.rows o ≡ Some w → LostLast s t o → 1 ≤ work.spare

-- the store has the rows after the loss, and both count the edges before it
pub record CanLose (rows : List CountedRow) (regions : List Region) (work : WorkList) (s t : State) (from : Source)
    (os : List ObjId) : Type 0 where
  pub loses : LosesPlace s t from os
  pub counts : Counts rows regions t.rows (near_edges s)
  pub room : HasRoom s t os work

-- an object is a suspect now where it lost its last edge, or its region the last owner or borrow; nothing else is new
pub record NoticesLoss (s t : State) (os : List ObjId) (old new : List Suspect) : Type 0 where
  pub last : (o : ObjId) (w : Owner) → Member o os → owner_in s.rows o ≡ Some w → LostLast s t o → new ≡ Object o ∷ old
  pub still : (o : ObjId) → Member o os → StillJustified s t o → new ≡ old
  pub elsewhere : (o : ObjId) → Member o os → owner_in s.rows o ≡ None → new ≡ old
  pub none : os ≡ [] → new ≡ old

-- the place is a slot or in a local row, where no region is given, or in a row of the region `home`, or it is a content
abbrev pub BeginsAt : List Row → Source → Option ObjId → Type 0
BeginsAt of from home = ((is_borrower of from ≡ true) × (home ≡ None)) ⊎ LiesIn of from home

-- both count the edges after the loss
pub record HasLost (rows : List CountedRow) (regions : List Region) (work : WorkList) (s t : State) (from : Source)
    (os : List ObjId) (home : Option ObjId) : Type 0 where
  pub loses : LosesPlace s t from os
  pub begins : BeginsAt s.rows from home
  pub counted : IsCounted rows regions t
  pub room : HasRoom s t os work

-- the table shows neither owner nor borrow of the region
abbrev pub is_bare : List Region → ObjId → Bool
is_bare regions r = not (owned_of regions r) && eqb (borrowed_of regions r) 0

-- an edge from the region `home` to a row of that owner owned or borrowed its region, which has neither now
abbrev pub is_left_bare : List Region → Owner → Option ObjId → Bool
is_left_bare regions (In r) home = is_other_region home r && is_bare regions r
is_left_bare regions Local home = false
is_left_bare regions Frozen home = false
