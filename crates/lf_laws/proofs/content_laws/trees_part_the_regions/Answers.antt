use Rattle.lf_laws.proofs.Contents.TreesApart.{trees_apart, trees_cover}
use Rattle.lf_laws.proofs.content_laws.trees_part_the_regions.Goals as goal

pub returns-clause-apart : goal.returns-clause-apart
returns-clause-apart c = trees_apart

pub returns-clause-covered : goal.returns-clause-covered
returns-clause-covered c = trees_cover
