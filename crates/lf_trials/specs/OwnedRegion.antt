-- A state for trials of regions that change hands: two regions of a bridge each, the first of which owns the second.
use Rattle.std.specs.Prelude.{pos}
use Rattle.lf_base.specs.declared.ids.ObjId.{ObjId}
use Rattle.lf_base.specs.declared.values.Key.TheVariants.{Int}
use Rattle.lf_base.specs.declared.values.Value.TheVariants.{Obj}
use Rattle.lf_base.specs.PlainState.{State}
use Rattle.lf_base.specs.WriteResult.{write_result}
use Rattle.lf_trials.specs.TwoRegions.{two_regions}

-- the names of the two bridges
abbrev pub owner_name : ObjId
owner_name = record { birth = 1; seq = 1 }

abbrev pub child_name : ObjId
child_name = record { birth = 1; seq = 2 }

abbrev pub with_child : State
with_child = write_result two_regions owner_name (Int (pos 0)) (Obj child_name)
