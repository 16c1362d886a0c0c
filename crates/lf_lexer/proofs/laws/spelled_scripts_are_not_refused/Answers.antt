use Rattle.lf_lexer.proofs.OneOutcome.ScriptOutcomes.{never_both}
use Rattle.lf_lexer.proofs.laws.spelled_scripts_are_not_refused.Goals as goal

pub returns : goal.returns
returns c = never_both
