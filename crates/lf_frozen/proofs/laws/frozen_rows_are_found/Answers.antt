use Rattle.lf_frozen.proofs.RowLaws.{each_found, frozen_row_found, none_found, not_there}
use Rattle.lf_frozen.proofs.laws.frozen_rows_are_found.Goals as goal

pub returns-clause-found : goal.returns-clause-found
returns-clause-found c = frozen_row_found

pub returns-clause-each : goal.returns-clause-each
returns-clause-each c = each_found

pub returns-clause-none : goal.returns-clause-none
returns-clause-none c rows o = (none_found rows o, not_there rows o)
