use Rattle.std.proofs.Common.{refl}
use Rattle.lf_laws.proofs.MoreGiven.GivenRows.{close_given, few_foreign, many_foreign}
use Rattle.lf_laws.proofs.MoreGiven.RefusalsAlike.{remove_given, store_given}
use Rattle.lf_laws.proofs.more_given_laws.results_stay.Goals as goal

pub returns-clause-store : goal.returns-clause-store
returns-clause-store c s many target k v = store_given s many target k v

pub returns-clause-remove : goal.returns-clause-remove
returns-clause-remove c s many target k = remove_given s many target k

pub returns-clause-frozen : goal.returns-clause-frozen
returns-clause-frozen c s many v = refl

pub returns-clause-merged : goal.returns-clause-merged
returns-clause-merged c s many a b = refl

pub returns-clause-dissolved : goal.returns-clause-dissolved
returns-clause-dissolved c s many r = refl

pub returns-clause-closed : goal.returns-clause-closed
returns-clause-closed c s many at r h = close_given s at r many (few_foreign s many h) (many_foreign s many h)

pub returns-clause-kept : goal.returns-clause-kept
returns-clause-kept c s many = refl

pub returns-clause-end : goal.returns-clause-end
returns-clause-end c s many = refl
