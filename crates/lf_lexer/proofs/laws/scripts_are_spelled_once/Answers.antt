use Rattle.lf_lexer.proofs.OneOutcome.ScriptOutcomes.{tokens_once, texts_once}
use Rattle.lf_lexer.proofs.laws.scripts_are_spelled_once.Goals as goal

pub returns-clause-tokens : goal.returns-clause-tokens
returns-clause-tokens c = tokens_once

pub returns-clause-texts : goal.returns-clause-texts
returns-clause-texts c = texts_once
