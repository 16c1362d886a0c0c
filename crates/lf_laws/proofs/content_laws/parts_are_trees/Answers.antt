use Rattle.lf_laws.proofs.Contents.PartsAreTrees.{part_is_tree}
use Rattle.lf_laws.proofs.content_laws.parts_are_trees.Goals as goal

pub returns : goal.returns
returns c = part_is_tree
