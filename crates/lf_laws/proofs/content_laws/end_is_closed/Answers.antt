use Rattle.lf_laws.proofs.Contents.EndIsClosed.{all_owned, none_borrowed, none_open}
use Rattle.lf_laws.proofs.content_laws.end_is_closed.Goals as goal

pub returns-clause-owned : goal.returns-clause-owned
returns-clause-owned c = all_owned

pub returns-clause-borrowed : goal.returns-clause-borrowed
returns-clause-borrowed c = none_borrowed

pub returns-clause-open_children : goal.returns-clause-open_children
returns-clause-open_children c = none_open
