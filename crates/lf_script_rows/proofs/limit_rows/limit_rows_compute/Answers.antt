use Rattle.lf_script_rows.proofs.LimitRowsComputed.{first_sum_code_shows, output_limit_shows, spawn_limit_shows}
use Rattle.lf_script_rows.proofs.LongRuns.{endless_lines_show, endless_objects_show}
use Rattle.lf_script_rows.proofs.limit_rows.limit_rows_compute.Goals as goal

pub returns-clause-output : goal.returns-clause-output
returns-clause-output c = output_limit_shows

pub returns-clause-spawns : goal.returns-clause-spawns
returns-clause-spawns c = spawn_limit_shows

pub returns-clause-code : goal.returns-clause-code
returns-clause-code c = first_sum_code_shows

pub returns-clause-endless_objects : goal.returns-clause-endless_objects
returns-clause-endless_objects c = endless_objects_show

pub returns-clause-endless_lines : goal.returns-clause-endless_lines
returns-clause-endless_lines c = endless_lines_show
