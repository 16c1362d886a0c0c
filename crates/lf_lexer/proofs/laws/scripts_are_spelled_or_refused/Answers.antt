use Rattle.lf_lexer.proofs.OneOutcome.ScriptOutcomes.{spelled_or_refused}
use Rattle.lf_lexer.proofs.laws.scripts_are_spelled_or_refused.Goals as goal

pub returns : goal.returns
returns c = spelled_or_refused
