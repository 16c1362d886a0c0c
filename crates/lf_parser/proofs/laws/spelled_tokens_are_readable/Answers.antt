use Rattle.lf_parser.proofs.Refusals.ReadableTokens.{readable}
use Rattle.lf_parser.proofs.laws.spelled_tokens_are_readable.Goals as goal

pub returns : goal.returns
returns c = readable
