use Rattle.lf_codegen.proofs.CodeShape.Depths.{body_has_operands}
use Rattle.lf_codegen.proofs.code_laws.code_has_operands.Goals as goal

pub returns : goal.returns
returns c = body_has_operands
