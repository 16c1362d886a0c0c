use Rattle.lf_laws.proofs.Edges.FrozenEdges.{borrowed_local}
use Rattle.lf_laws.proofs.edge_laws.local_rows_are_borrowed.Goals as goal

pub returns : goal.returns
returns c s e t = borrowed_local s t e
