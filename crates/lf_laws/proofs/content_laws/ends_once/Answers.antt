use Rattle.lf_laws.proofs.Contents.ContentsReturn.{end_ended, end_once}
use Rattle.lf_laws.proofs.content_laws.ends_once.Goals as goal

pub returns-clause-ended : goal.returns-clause-ended
returns-clause-ended c = end_ended

pub returns-clause-again : goal.returns-clause-again
returns-clause-again c = end_once
