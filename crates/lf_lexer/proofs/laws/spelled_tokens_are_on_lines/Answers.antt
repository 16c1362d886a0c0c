use Rattle.lf_lexer.proofs.TokenLaws.LineOrders.{tokens_on_lines}
use Rattle.lf_lexer.proofs.laws.spelled_tokens_are_on_lines.Goals as goal

pub returns : goal.returns
returns c = tokens_on_lines
