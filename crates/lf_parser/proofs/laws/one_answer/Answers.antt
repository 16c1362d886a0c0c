use Rattle.lf_parser.proofs.Refusals.LawsOfTrees.{one_tree, tree_or_refusal, one_refusal}
use Rattle.lf_parser.proofs.laws.one_answer.Goals as goal

pub returns : goal.returns
returns c = record { one_tree = one_tree; tree_or_refusal = tree_or_refusal; one_refusal = one_refusal }
