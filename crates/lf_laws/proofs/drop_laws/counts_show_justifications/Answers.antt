use Rattle.lf_laws.proofs.Losses.DroppedSets.{bare_counts, inner_points, local_points}
use Rattle.lf_laws.proofs.drop_laws.counts_show_justifications.Goals as goal

pub returns-clause-bare : goal.returns-clause-bare
returns-clause-bare c s r t = bare_counts s t r

pub returns-clause-local : goal.returns-clause-local
returns-clause-local c s o t = local_points s t o

pub returns-clause-inner : goal.returns-clause-inner
returns-clause-inner c s o r t = inner_points s t o r
