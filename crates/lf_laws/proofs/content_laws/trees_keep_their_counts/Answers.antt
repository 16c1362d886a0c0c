use Rattle.lf_laws.proofs.Contents.TreeCounts.{refs_of_tree}
use Rattle.lf_laws.proofs.content_laws.trees_keep_their_counts.Goals as goal

pub returns : goal.returns
returns c = refs_of_tree
