-- A write of a field: its result, and what it is refused for.
use Rattle.std.specs.Prelude.{Bool, List, None, Option, Some, [], cond, false, ltb, map, not, true, ◌&&◌, ◌∷◌}
use Rattle.std.specs.List.{list_any}
use Rattle.lf_base.specs.declared.faults.Fault.{Fault}
use Rattle.lf_base.specs.declared.faults.Fault.TheVariants.{Cycle, FrozenWrite, Interior, SecondOwner}
use Rattle.lf_base.specs.declared.ids.ObjId.{ObjId}
use Rattle.lf_base.specs.declared.values.Key.{Key}
use Rattle.lf_base.specs.declared.values.Owner.{Owner}
use Rattle.lf_base.specs.declared.values.Owner.TheVariants.{In, Local}
use Rattle.lf_base.specs.declared.values.Value.{Value}
use Rattle.lf_base.specs.Edges.{Edge, Field, Source, edges}
use Rattle.lf_base.specs.MoveSet.{move_set}
use Rattle.lf_base.specs.Names.{same_key, same_name}
use Rattle.lf_base.specs.Owners.{bridges, has_name, names, owner_in}
use Rattle.lf_base.specs.Ownership.{is_in_other, owning_edges, round}
use Rattle.lf_base.specs.PlainState.{Row, State}

-- the fields with k set to v: in its place, or last
abbrev pub put_field : List (Key × Value) → Key → Value → List (Key × Value)
put_field [] k v = (k, v) ∷ []
put_field (f ∷ fs) k v = cond (same_key f.0 k) ((k, v) ∷ fs) (f ∷ put_field fs k v)

-- the row has that name
abbrev pub is_at : ObjId → Row → Bool
is_at o r = same_name r.name o

-- the rows with field k of x set to v
abbrev pub write_fields : List Row → ObjId → Key → Value → List Row
write_fields rows x k v = map (λ r. cond (is_at x r) (record r { fields = put_field r.fields k v }) r) rows

-- the rows with those of these names given to the owner w
abbrev pub relabel : List Row → List ObjId → Owner → List Row
relabel rows os w = map (λ r. cond (has_name os r.name) (record r { owner = w }) r) rows

-- a set of rows moves where the target lies in a region
abbrev pub moved : List Row → List Row → Option Owner → List Row
moved rows set (Some (In r)) = relabel rows (names set) (In r)
moved rows set _ = rows

-- field k of x becomes v; where x lies in a region, what moves with v goes to that region
abbrev pub write_result : State → ObjId → Key → Value → State
write_result s x k v = record s { rows = moved (write_fields s.rows x k v) (move_set s v) (owner_in s.rows x) }

-- from here an edge to a row of region q comes from a row of another region
abbrev pub is_inner_source : List Row → Source → ObjId → Bool
is_inner_source rows (Field o) q = is_in_other q (owner_in rows o)
is_inner_source rows _ q = false

-- the edge leads from a region's row to a row of another region that is no bridge
abbrev pub leads_inside : List Row → Edge → Option Owner → Bool
leads_inside rows e (Some (In q)) = is_inner_source rows e.from q && not (same_name q e.to)
leads_inside rows e _ = false

-- somewhere an edge leads to the inside of another region
abbrev pub shows_interior : State → Bool
shows_interior s = list_any (λ e. leads_inside s.rows e (owner_in s.rows e.to)) (edges s)

-- some bridge has two owning edges
abbrev pub shows_two : State → Bool
shows_two s = list_any (λ r. ltb 1 (owning_edges s r)) (bridges s)

-- the list has an item
abbrev pub is_some_list : {X : Type 0} → List X → Bool
is_some_list [] = false
is_some_list (x ∷ xs) = true

-- owners go round
abbrev pub shows_round : State → Bool
shows_round s = is_some_list (round s)

-- the first of the three that is shown
abbrev pub first_shown : Bool → Bool → Bool → Option Fault
first_shown true b c = Some Interior
first_shown false true c = Some SecondOwner
first_shown false false true = Some Cycle
first_shown false false false = None

-- the first fault of the topology that the state shows anywhere
abbrev pub fault_shown : State → Option Fault
fault_shown s = first_shown (shows_interior s) (shows_two s) (shows_round s)

-- by the target's owner: a target without a mutable row is frozen, and else the result is judged
abbrev pub refusal_by : State → ObjId → Key → Value → Option Owner → Option Fault
refusal_by s x k v (Some Local) = fault_shown (write_result s x k v)
refusal_by s x k v (Some (In r)) = fault_shown (write_result s x k v)
refusal_by s x k v _ = Some FrozenWrite

-- what the write is refused for; the result is judged as it is before anything is dropped
abbrev pub write_refusal : State → ObjId → Key → Value → Option Fault
write_refusal s x k v = refusal_by s x k v (owner_in s.rows x)
