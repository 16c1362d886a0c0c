use Rattle.lf_lexer.proofs.TokenLaws.Layouts.{tokens_laid}
use Rattle.lf_lexer.proofs.laws.spelled_tokens_are_laid.Goals as goal

pub returns : goal.returns
returns c = tokens_laid
