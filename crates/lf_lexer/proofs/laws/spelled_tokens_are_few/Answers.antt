use Rattle.lf_lexer.proofs.TokenLaws.Totals.{tokens_count}
use Rattle.lf_lexer.proofs.laws.spelled_tokens_are_few.Goals as goal

pub returns : goal.returns
returns c = tokens_count
