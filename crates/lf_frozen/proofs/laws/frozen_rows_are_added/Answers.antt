use Rattle.lf_frozen.proofs.RowLaws.{added_rise, added_row, names_added, row_added, rows_put}
use Rattle.lf_frozen.proofs.laws.frozen_rows_are_added.Goals as goal

pub returns-clause-rows : goal.returns-clause-rows
returns-clause-rows c more rows row = (added_row more rows row, row_added more rows row)

pub returns-clause-names : goal.returns-clause-names
returns-clause-names c = names_added

pub returns-clause-rising : goal.returns-clause-rising
returns-clause-rising c = added_rise

pub returns-clause-as_state : goal.returns-clause-as_state
returns-clause-as_state c = rows_put
