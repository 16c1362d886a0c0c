use Rattle.lf_laws.proofs.Edges.EdgeParts.{edges_parted}
use Rattle.lf_laws.proofs.Edges.FrozenEdges.{leads_to_frozen, near_borrowed, near_owned, near_owning, near_refs, no_mutable_target}
use Rattle.lf_laws.proofs.edge_laws.near_edges_tell_counts.Goals as goal

pub returns-clause-parted : goal.returns-clause-parted
returns-clause-parted c = edges_parted

pub returns-clause-frozen : goal.returns-clause-frozen
returns-clause-frozen c s e t m = (leads_to_frozen s t e m, no_mutable_target s t e m)

pub returns-clause-refs : goal.returns-clause-refs
returns-clause-refs c s o t = near_refs s t o

pub returns-clause-borrowed : goal.returns-clause-borrowed
returns-clause-borrowed c s r t = near_borrowed s t r

pub returns-clause-owning : goal.returns-clause-owning
returns-clause-owning c s r t = near_owning s t r

pub returns-clause-owned : goal.returns-clause-owned
returns-clause-owned c s r t = near_owned s t r
