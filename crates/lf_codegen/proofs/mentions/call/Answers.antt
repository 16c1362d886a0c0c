use Rattle.std.proofs.Common.{rules}
use Rattle.lf_codegen.proofs.Mentioning.Arguments.{count_of_args}
use Rattle.lf_codegen.proofs.mentions.call.Goals as goal

pub returns : goal.returns
returns c = let n = count_of_args c.args.args.now in search rules
