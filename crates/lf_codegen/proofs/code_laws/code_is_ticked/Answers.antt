use Rattle.lf_codegen.proofs.CodeShape.TickedCode.{is_ticked}
use Rattle.lf_codegen.proofs.code_laws.code_is_ticked.Goals as goal

pub returns : goal.returns
returns c = is_ticked
