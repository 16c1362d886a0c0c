use Rattle.lf_codegen.proofs.Mentioning.Arguments.{not_one}
use Rattle.lf_codegen.proofs.mentions.are_one_variable.Goals as goal

pub returns-else-args-eq1 : goal.returns-else-args-eq1
returns-else-args-eq1 c = not_one c.args.args.now c.if-args-eq1.false
