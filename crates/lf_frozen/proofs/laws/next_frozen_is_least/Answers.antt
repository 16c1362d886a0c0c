use Rattle.lf_frozen.proofs.RowLaws.{next_absent, next_row_least, next_there, no_next}
use Rattle.lf_frozen.proofs.laws.next_frozen_is_least.Goals as goal

pub returns-clause-there : goal.returns-clause-there
returns-clause-there c = next_there

pub returns-clause-least : goal.returns-clause-least
returns-clause-least c = next_row_least

pub returns-clause-none : goal.returns-clause-none
returns-clause-none c rows after = (no_next rows after, next_absent rows after)
