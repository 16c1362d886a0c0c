use Rattle.lf_laws.proofs.Contents.PartsApart.{parts_apart}
use Rattle.lf_laws.proofs.Contents.PartsCover.{rows_covered}
use Rattle.lf_laws.proofs.content_laws.contents_part_the_rows.Goals as goal

pub returns-clause-covered : goal.returns-clause-covered
returns-clause-covered c = rows_covered

pub returns-clause-apart : goal.returns-clause-apart
returns-clause-apart c = parts_apart
