use Rattle.lf_laws.proofs.OwnNames.CallsBring.{close_adds, dissolve_adds, end_adds, frozen_adds, lift_adds, load_adds, merge_adds, new_cown_adds, new_object_adds, new_region_adds, popped_adds, pushed_adds, put_down_adds, read_adds, take_adds, unset_adds, write_adds}
use Rattle.lf_laws.proofs.OwnNames.ChangesBring.{kept_comes}
use Rattle.lf_laws.proofs.OwnNames.KnownCowns.{adds_own}
use Rattle.lf_base.specs.Kept.{kept}
use Rattle.lf_laws.proofs.own_name_laws.calls_add_own_names.Goals as goal

pub returns-clause-pushed : goal.returns-clause-pushed
returns-clause-pushed c = pushed_adds

pub returns-clause-popped : goal.returns-clause-popped
returns-clause-popped c = popped_adds

pub returns-clause-put : goal.returns-clause-put
returns-clause-put c = put_down_adds

pub returns-clause-load : goal.returns-clause-load
returns-clause-load c = load_adds

pub returns-clause-lift : goal.returns-clause-lift
returns-clause-lift c = lift_adds

pub returns-clause-unset : goal.returns-clause-unset
returns-clause-unset c = unset_adds

pub returns-clause-object : goal.returns-clause-object
returns-clause-object c = new_object_adds

pub returns-clause-region : goal.returns-clause-region
returns-clause-region c = new_region_adds

pub returns-clause-cown : goal.returns-clause-cown
returns-clause-cown c = new_cown_adds

pub returns-clause-read : goal.returns-clause-read
returns-clause-read c = read_adds

pub returns-clause-write : goal.returns-clause-write
returns-clause-write c = write_adds

pub returns-clause-take : goal.returns-clause-take
returns-clause-take c = take_adds

pub returns-clause-frozen : goal.returns-clause-frozen
returns-clause-frozen c = frozen_adds

pub returns-clause-merged : goal.returns-clause-merged
returns-clause-merged c = merge_adds

pub returns-clause-dissolved : goal.returns-clause-dissolved
returns-clause-dissolved c = dissolve_adds

pub returns-clause-closed : goal.returns-clause-closed
returns-clause-closed c = close_adds

pub returns-clause-dropped : goal.returns-clause-dropped
returns-clause-dropped c s = adds_own s (kept s) (kept_comes s)

pub returns-clause-end : goal.returns-clause-end
returns-clause-end c = end_adds
