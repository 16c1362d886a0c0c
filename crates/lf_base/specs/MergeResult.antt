-- Merging one region into another.
use Rattle.std.specs.Prelude.{Bool, List, None, Option, Some, cond, map, not, ◌&&◌}
use Rattle.std.specs.List.{list_any}
use Rattle.lf_base.specs.declared.faults.Fault.{Fault}
use Rattle.lf_base.specs.declared.faults.Fault.TheVariants.{Cycle, NotBridge, Owned}
use Rattle.lf_base.specs.declared.ids.ObjId.{ObjId}
use Rattle.lf_base.specs.declared.values.Owner.{Owner}
use Rattle.lf_base.specs.declared.values.Owner.TheVariants.{In}
use Rattle.lf_base.specs.declared.values.Value.{Value}
use Rattle.lf_base.specs.Edges.{Source, edges}
use Rattle.lf_base.specs.Names.{same_name}
use Rattle.lf_base.specs.Owners.{bridge_of, has_name, is_in}
use Rattle.lf_base.specs.Ownership.{below, is_from, is_owning, owns}
use Rattle.lf_base.specs.PlainState.{Row, State}

-- the row lies in region r
abbrev pub lies_in : ObjId → Row → Bool
lies_in r row = is_in r (Some (row.owner))

-- the rows with all those of region r given to the owner w
abbrev pub relabel_region : List Row → ObjId → Owner → List Row
relabel_region rows r w = map (λ row. cond (lies_in r row) (record row { owner = w }) row) rows

-- every row of region b goes to region a
abbrev pub merge_result : State → ObjId → ObjId → State
merge_result s a b = record s { rows = relabel_region s.rows b (In a) }

-- an edge from here owns bridge b and comes from a cown, or from a region other than a
abbrev pub is_owning_elsewhere : List Row → ObjId → ObjId → Source → Bool
is_owning_elsewhere rows a b f = is_owning rows f b && not (is_from rows a f)

-- b is owned by a cown, or by a region other than a
abbrev pub is_owned_elsewhere : State → ObjId → ObjId → Bool
is_owned_elsewhere s a b = list_any (λ e. is_owning_elsewhere s.rows a b e.from && same_name e.to b) (edges s)

-- what the merging of region b into region a is refused for
abbrev pub merge_fault : State → ObjId → ObjId → Option Fault
merge_fault s a b =
    cond (same_name a b) None
    (cond (is_owned_elsewhere s a b) (Some Owned)
    (cond (has_name (below s b) a && not (owns s b a)) (Some Cycle) None))

-- by the two bridges: both must be there
abbrev pub merge_refusal_by : State → Option ObjId → Option ObjId → Option Fault
merge_refusal_by s (Some a) (Some b) = merge_fault s a b
merge_refusal_by s _ _ = Some NotBridge

-- what merge(v, w) is refused for
abbrev pub merge_refusal : State → Value → Value → Option Fault
merge_refusal s v w = merge_refusal_by s (bridge_of s v) (bridge_of s w)
