use Rattle.lf_codegen.proofs.ValidOutput.WholeCode.{code_is_valid}
use Rattle.lf_codegen.proofs.code_laws.code_is_valid.Goals as goal

pub returns : goal.returns
returns c = code_is_valid
