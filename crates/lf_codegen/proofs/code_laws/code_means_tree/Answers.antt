use Rattle.lf_codegen.proofs.Following.Whole.{code_means_tree}
use Rattle.lf_codegen.proofs.code_laws.code_means_tree.Goals as goal

pub returns : goal.returns
returns c = code_means_tree
