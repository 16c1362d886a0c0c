-- What a store keeps of rows and of edges: the rows, and how many of the edges lead to each.
use Rattle.std.specs.Prelude.{List, count_by, ◌≡◌}
use Rattle.lf_base.specs.declared.ids.ObjId.{ObjId}
use Rattle.lf_base.specs.Edges.{Edge}
use Rattle.lf_base.specs.Names.{same_name}
use Rattle.lf_base.specs.PlainState.{Row}
use Rattle.lf_graph.specs.StoredRows.{AreRowsOf, CountedRow, HasRow, refs_at}

-- the store has these rows, each with the number of these edges that lead to it
pub record IsStoreOf (stored : List CountedRow) (of : List Row) (es : List Edge) : Type 0 where
  pub rows : AreRowsOf stored of
  pub refs : (o : ObjId) → HasRow stored o → refs_at stored o ≡ count_by (λ e. same_name e.to o) es
