use Rattle.lf_script_rows.proofs.WhenRowsComputed.{frozen_capture_shows, one_cown_twice_shows, named_again_shows, fault_keeps_writes_shows}
use Rattle.lf_script_rows.proofs.WhenRowsComputed.{moved_content_shows, body_returns_shows, accounts_shows, endless_whens_shows}
use Rattle.lf_script_rows.proofs.when_rows.when_rows_compute.Goals as goal

pub returns-clause-frozen_capture : goal.returns-clause-frozen_capture
returns-clause-frozen_capture c = frozen_capture_shows

pub returns-clause-one_cown_twice : goal.returns-clause-one_cown_twice
returns-clause-one_cown_twice c = one_cown_twice_shows

pub returns-clause-named_again : goal.returns-clause-named_again
returns-clause-named_again c = named_again_shows

pub returns-clause-fault_keeps_writes : goal.returns-clause-fault_keeps_writes
returns-clause-fault_keeps_writes c = fault_keeps_writes_shows

pub returns-clause-moved_content : goal.returns-clause-moved_content
returns-clause-moved_content c = moved_content_shows

pub returns-clause-body_returns : goal.returns-clause-body_returns
returns-clause-body_returns c = body_returns_shows

pub returns-clause-accounts : goal.returns-clause-accounts
returns-clause-accounts c = accounts_shows

pub returns-clause-endless_whens : goal.returns-clause-endless_whens
returns-clause-endless_whens c = endless_whens_shows
