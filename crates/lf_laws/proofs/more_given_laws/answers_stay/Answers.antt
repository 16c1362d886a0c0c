use Rattle.lf_laws.proofs.MoreGiven.CallsAlike.{asked_alike}
use Rattle.lf_laws.proofs.MoreGiven.ReadsAlike.{borrowed_alike, children_alike, closed_alike, label_alike, read_alike, refs_alike}
use Rattle.lf_laws.proofs.more_given_laws.answers_stay.Goals as goal

pub returns-clause-read : goal.returns-clause-read
returns-clause-read c s many target k h may = read_alike s many h target k may

pub returns-clause-label : goal.returns-clause-label
returns-clause-label c s many v h may = label_alike s many h v may

pub returns-clause-refs : goal.returns-clause-refs
returns-clause-refs c s many v h = refs_alike s many h v

pub returns-clause-borrowed : goal.returns-clause-borrowed
returns-clause-borrowed c s many v h = borrowed_alike s many h v

pub returns-clause-open_children : goal.returns-clause-open_children
returns-clause-open_children c s many v h = children_alike s many h v

pub returns-clause-is_closed : goal.returns-clause-is_closed
returns-clause-is_closed c s many at v h = closed_alike s many h at v

pub returns-clause-asked : goal.returns-clause-asked
returns-clause-asked c s many q at h = asked_alike s many h q at
