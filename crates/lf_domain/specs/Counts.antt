-- A store of rows and a table of regions that are those of one state: its rows, its regions, and the counts of its edges.
use Rattle.std.specs.Prelude.{List, length, ◌<◌, ◌^◌}
use Rattle.lf_base.specs.EdgeLists.{near_edges}
use Rattle.lf_base.specs.Edges.{Edge}
use Rattle.lf_base.specs.PlainState.{Row, State}
use Rattle.lf_base.specs.WellFormed.{WellFormed}
use Rattle.lf_graph.specs.StoreCounts.{IsStoreOf}
use Rattle.lf_graph.specs.StoredRows.{CountedRow}
use Rattle.lf_regions.specs.declared.region.Region.{Region}
use Rattle.lf_regions.specs.TableCounts.{IsTableOf}

-- the store has these rows and the table their bridges, and both count these edges
pub record Counts (rows : List CountedRow) (regions : List Region) (of : List Row) (es : List Edge) : Type 0 where
  pub store : IsStoreOf rows of es
  pub table : IsTableOf regions of es

-- the store and the table are those of a state: its mutable rows, and the edges that its slots, its mutable rows and its contents have
abbrev pub CountsOf : List CountedRow → List Region → State → Type 0
CountsOf rows regions s = Counts rows regions s.rows (near_edges s)

-- the same of a well-formed state with so few of these edges that each count has room for more
pub record IsDomain (rows : List CountedRow) (regions : List Region) (s : State) : Type 0 where
  pub counts : CountsOf rows regions s
  pub well_formed : WellFormed s
  pub few : length (near_edges s) < 2 ^ 63
