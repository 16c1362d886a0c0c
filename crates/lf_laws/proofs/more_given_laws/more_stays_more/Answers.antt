use Rattle.lf_laws.proofs.MoreGiven.CallsStayMore.{close_more, cown_more, dissolve_more, end_more, frozen_more, lift_more, load_more, merge_more, object_more, popped_more, put_down_more, read_more, region_more, take_more, unset_more, write_more}
use Rattle.lf_laws.proofs.more_given_laws.more_stays_more.Goals as goal

pub returns-clause-load : goal.returns-clause-load
returns-clause-load c s many at h = load_more s many h at

pub returns-clause-lift : goal.returns-clause-lift
returns-clause-lift c s many at h = lift_more s many h at

pub returns-clause-unset : goal.returns-clause-unset
returns-clause-unset c s many at h = unset_more s many h at

pub returns-clause-object : goal.returns-clause-object
returns-clause-object c = object_more

pub returns-clause-region : goal.returns-clause-region
returns-clause-region c = region_more

pub returns-clause-cown : goal.returns-clause-cown
returns-clause-cown c = cown_more

pub returns-clause-read : goal.returns-clause-read
returns-clause-read c = read_more

pub returns-clause-write : goal.returns-clause-write
returns-clause-write c = write_more

pub returns-clause-take : goal.returns-clause-take
returns-clause-take c = take_more

pub returns-clause-merged : goal.returns-clause-merged
returns-clause-merged c = merge_more

pub returns-clause-dissolved : goal.returns-clause-dissolved
returns-clause-dissolved c = dissolve_more

pub returns-clause-closed : goal.returns-clause-closed
returns-clause-closed c s many at h = close_more s many h at

pub returns-clause-popped : goal.returns-clause-popped
returns-clause-popped c = popped_more

pub returns-clause-put : goal.returns-clause-put
returns-clause-put c s many at h = put_down_more s many h at

pub returns-clause-frozen : goal.returns-clause-frozen
returns-clause-frozen c = frozen_more

pub returns-clause-end : goal.returns-clause-end
returns-clause-end c = end_more
