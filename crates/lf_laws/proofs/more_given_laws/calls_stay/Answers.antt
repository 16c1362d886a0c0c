use Rattle.std.proofs.Common.{refl}
use Rattle.lf_laws.proofs.MoreGiven.CallsAlike.{close_alike, dissolve_call_alike, lift_alike, load_alike, made_alike, merge_call_alike, new_object_alike, new_region_alike, read_call_alike, take_alike, unset_alike, write_alike}
use Rattle.lf_laws.proofs.more_given_laws.calls_stay.Goals as goal

pub returns-clause-load : goal.returns-clause-load
returns-clause-load c s many at h = load_alike s many h at

pub returns-clause-lift : goal.returns-clause-lift
returns-clause-lift c s many at h = lift_alike s many h at

pub returns-clause-unset : goal.returns-clause-unset
returns-clause-unset c s many at h = unset_alike s many h at

pub returns-clause-object : goal.returns-clause-object
returns-clause-object c = new_object_alike

pub returns-clause-region : goal.returns-clause-region
returns-clause-region c = new_region_alike

pub returns-clause-cown : goal.returns-clause-cown
returns-clause-cown c = made_alike

pub returns-clause-read : goal.returns-clause-read
returns-clause-read c = read_call_alike

pub returns-clause-write : goal.returns-clause-write
returns-clause-write c = write_alike

pub returns-clause-take : goal.returns-clause-take
returns-clause-take c = take_alike

pub returns-clause-frozen : goal.returns-clause-frozen
returns-clause-frozen c s many = refl

pub returns-clause-merged : goal.returns-clause-merged
returns-clause-merged c = merge_call_alike

pub returns-clause-dissolved : goal.returns-clause-dissolved
returns-clause-dissolved c = dissolve_call_alike

pub returns-clause-closed : goal.returns-clause-closed
returns-clause-closed c s many at h = close_alike s many h at
