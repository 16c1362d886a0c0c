use Rattle.lf_lexer.proofs.OneOutcome.ScriptOutcomes.{refusal_once}
use Rattle.lf_lexer.proofs.laws.scripts_are_refused_once.Goals as goal

pub returns : goal.returns
returns c = refusal_once
