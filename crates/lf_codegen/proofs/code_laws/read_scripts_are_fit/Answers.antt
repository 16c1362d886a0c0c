use Rattle.lf_codegen.proofs.TextsOfTokens.ReadTexts.{read_is_fit}
use Rattle.lf_codegen.proofs.code_laws.read_scripts_are_fit.Goals as goal

pub returns : goal.returns
returns c = read_is_fit
