use Rattle.lf_laws.proofs.Edges.NamedRows.{all_from, near_from}
use Rattle.lf_laws.proofs.edge_laws.edges_of_named_rows.Goals as goal

pub returns-clause-near : goal.returns-clause-near
returns-clause-near c s os p t d h = near_from os p s t d h

pub returns-clause-all : goal.returns-clause-all
returns-clause-all c s os p t d h = all_from os p s t d h
