-- A state for trials of a freeze: a region with an inner row, which a slot borrows, and another region.
use Rattle.std.specs.Prelude.{Some, pos}
use Rattle.lf_base.specs.declared.ids.ObjId.{ObjId}
use Rattle.lf_base.specs.declared.values.Key.TheVariants.{Int}
use Rattle.lf_base.specs.declared.values.Value.TheVariants.{Obj}
use Rattle.lf_base.specs.PlainChanges.{object_result, with_slot}
use Rattle.lf_base.specs.PlainState.{State}
use Rattle.lf_base.specs.WriteResult.{write_result}
use Rattle.lf_trials.specs.OwnedRegion.{owner_name}
use Rattle.lf_trials.specs.TwoRegions.{two_regions}

-- the name of the inner row
abbrev pub inner_name : ObjId
inner_name = record { birth = 1; seq = 3 }

abbrev pub with_inner : State
with_inner = write_result (object_result two_regions) owner_name (Int (pos 0)) (Obj inner_name)

abbrev pub borrowed_inner : State
borrowed_inner = with_slot with_inner (Some (Obj inner_name))
