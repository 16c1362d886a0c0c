use Rattle.lf_lexer.proofs.TokenLaws.Orders.{tokens_in_order}
use Rattle.lf_lexer.proofs.laws.spelled_tokens_are_in_order.Goals as goal

pub returns : goal.returns
returns c = tokens_in_order
