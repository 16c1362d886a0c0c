use Rattle.lf_codegen.proofs.Answering.Decided.{read_or}
use Rattle.lf_codegen.proofs.laws.scripts_are_read_or_refused.Goals as goal

pub returns : goal.returns
returns c = read_or
