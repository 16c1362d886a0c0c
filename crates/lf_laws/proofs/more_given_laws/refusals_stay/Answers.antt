use Rattle.lf_laws.proofs.MoreGiven.RefusalsAlike.{dissolve_alike, merge_alike, new_cown_alike, read_refused_alike, remove_alike, store_alike}
use Rattle.lf_laws.proofs.more_given_laws.refusals_stay.Goals as goal

pub returns-clause-read : goal.returns-clause-read
returns-clause-read c s many target key h may = read_refused_alike s many h target key may

pub returns-clause-store : goal.returns-clause-store
returns-clause-store c s many target key v h may = store_alike s many h target key v may

pub returns-clause-remove : goal.returns-clause-remove
returns-clause-remove c s many target key h = remove_alike s many h target key

pub returns-clause-cown : goal.returns-clause-cown
returns-clause-cown c s many v h may = new_cown_alike s many h v may

pub returns-clause-merged : goal.returns-clause-merged
returns-clause-merged c s many v w h = merge_alike s many h v w

pub returns-clause-dissolved : goal.returns-clause-dissolved
returns-clause-dissolved c s many v h = dissolve_alike s many h v
