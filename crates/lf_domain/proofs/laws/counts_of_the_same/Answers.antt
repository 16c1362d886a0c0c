use Rattle.lf_domain.proofs.CountedEdges.{same_counts, same_rows_count}
use Rattle.lf_domain.proofs.laws.counts_of_the_same.Goals as goal

pub returns-clause-edges : goal.returns-clause-edges
returns-clause-edges c = same_counts

pub returns-clause-rows : goal.returns-clause-rows
returns-clause-rows c = same_rows_count
