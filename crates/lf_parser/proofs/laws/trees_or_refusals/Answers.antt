use Rattle.lf_parser.proofs.Refusals.TreeOrRefused.{has_tree_or_refusal}
use Rattle.lf_parser.proofs.laws.trees_or_refusals.Goals as goal

pub returns : goal.returns
returns c = has_tree_or_refusal
