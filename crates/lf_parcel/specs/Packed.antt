-- Contents with the stored rows that they own.
use Rattle.std.specs.Prelude.{List, Some, [], count_by, map, ℕ, ◌+◌, ◌++◌, ◌∷◌, ◌≡◌}
use Rattle.lf_base.specs.declared.ids.CownId.{CownId}
use Rattle.lf_base.specs.declared.ids.ObjId.{ObjId}
use Rattle.lf_base.specs.declared.values.Value.{Value}
use Rattle.lf_base.specs.declared.values.Value.TheVariants as value
use Rattle.lf_base.specs.Contents.{Parked}
use Rattle.lf_base.specs.Edges.{rows_edges}
use Rattle.lf_base.specs.Names.{same_name}
use Rattle.lf_base.specs.PlainState.{Row}
use Rattle.lf_base.specs.Sets.{Member}
use Rattle.lf_base.specs.WalkCounts.{counted}
use Rattle.lf_base.specs.WholeContents.{StandsAlone}
use Rattle.lf_graph.specs.StoredRows.{AreRowsOf, CountedRow, HasRow, refs_at}

-- a cown, its content, and the stored rows that the content owns
pub record Packed : Type 0 where
  pub cown : CownId
  pub content : Parked
  pub stored : List CountedRow

-- the edges to o from the content's rows and from its cown
abbrev pub counts_in : Parked → ObjId → ℕ
counts_in v o = count_by (λ e. same_name e.to o) (rows_edges v.rows) + counted o (Some (v.value))

-- the stored rows are the content's, with the counts of these alone, and the content is whole
pub record IsPacked (p : Packed) : Type 0 where
  pub are : AreRowsOf p.stored p.content.rows
  pub stands : StandsAlone p.cown p.content
  pub refs : (o : ObjId) → HasRow p.stored o → refs_at p.stored o ≡ counts_in p.content o

abbrev pub EachPacked : List Packed → Type 0
EachPacked ps = (p : Packed) → Member p ps → IsPacked p

-- the contents without their stored rows
abbrev pub packed_contents : List Packed → List (CownId × Parked)
packed_contents ps = map (λ p. (p.cown, p.content)) ps

-- all stored rows, those of the last content first
abbrev pub all_stored : List Packed → List CountedRow
all_stored [] = []
all_stored (p ∷ ps) = all_stored ps ++ p.stored

-- a content that is a tree with that root
abbrev pub rooted : CownId → ObjId → List Row → List CountedRow → Packed
rooted c root rows stored = record { cown = c; content = record { value = value.Obj root; rows = rows }; stored = stored }

-- a content without rows
abbrev pub rowless : CownId → Value → Packed
rowless c v = record { cown = c; content = record { value = v; rows = [] }; stored = [] }
