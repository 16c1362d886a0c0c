-- States for trials of settling, with the slots and the fields that the calls of a trial make.
use Rattle.std.specs.Prelude.{List, Some, [], pos, ◌∷◌}
use Rattle.lf_base.specs.declared.ids.ObjId.{ObjId}
use Rattle.lf_base.specs.declared.values.Key.{Key}
use Rattle.lf_base.specs.declared.values.Key.TheVariants.{Int}
use Rattle.lf_base.specs.declared.values.Value.TheVariants.{Obj}
use Rattle.lf_base.specs.Edges.{Edge, Field, Slot}
use Rattle.lf_base.specs.PlainChanges.{first_state, object_result, with_slots}
use Rattle.lf_base.specs.PlainState.{State}
use Rattle.lf_base.specs.WriteResult.{write_result}
use Rattle.lf_trials.specs.TwoRegions.{two_regions}

-- the first two objects
abbrev pub first : ObjId
first = record { birth = 1; seq = 1 }

abbrev pub second : ObjId
second = record { birth = 1; seq = 2 }

-- the keys of the fields
abbrev pub key_zero : Key
key_zero = Int (pos 0)

abbrev pub key_one : Key
key_one = Int (pos 1)

-- both regions in slots
abbrev pub regions_in_slots : State
regions_in_slots = with_slots two_regions (Some (Obj first) ∷ (Some (Obj second) ∷ []))

-- the first one leads to itself
abbrev pub region_in_cycle : State
region_in_cycle = write_result regions_in_slots first key_zero (Obj first)

-- and owns the second one
abbrev pub owner_and_child : State
owner_and_child = write_result region_in_cycle first key_one (Obj second)

-- their edges, the last counted first
abbrev pub four_edges : List Edge
four_edges = record { from = Field first; to = second } ∷ (record { from = Field first; to = first }
    ∷ (record { from = Slot; to = second } ∷ (record { from = Slot; to = first } ∷ [])))

-- two local objects, one of them in a slot
abbrev pub two_objects : State
two_objects = object_result (object_result (first_state 1 []))

abbrev pub object_in_slot : State
object_in_slot = with_slots two_objects (Some (Obj first) ∷ [])

-- each leads to the other
abbrev pub half_cycle : State
half_cycle = write_result object_in_slot first key_zero (Obj second)

abbrev pub local_cycle : State
local_cycle = write_result half_cycle second key_zero (Obj first)
