use Rattle.lf_laws.proofs.Edges.FrozenCounts.{borrowed_freeze, owning_freeze, refs_freeze}
use Rattle.lf_laws.proofs.count_laws.counts_after_freeze.Goals as goal

pub returns-clause-refs : goal.returns-clause-refs
returns-clause-refs c s v o t = refs_freeze s v t o

pub returns-clause-borrowed : goal.returns-clause-borrowed
returns-clause-borrowed c s v r t = borrowed_freeze s v t r

pub returns-clause-owning : goal.returns-clause-owning
returns-clause-owning c s v r t = owning_freeze s v t r
