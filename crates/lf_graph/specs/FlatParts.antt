-- The rows of a region out of a flat store.
use Rattle.std.specs.Prelude.{List, None, Option, Some, length, map, ℕ, ◌+◌, ◌≡◌, [], ◌∷◌}
use Rattle.lf_base.specs.declared.ids.ObjId.{ObjId}
use Rattle.lf_base.specs.declared.values.Key.{Key}
use Rattle.lf_base.specs.declared.values.Owner.TheVariants.{In}
use Rattle.lf_base.specs.declared.values.Value.{Value}
use Rattle.lf_base.specs.Links.{NodesDiffer}
use Rattle.lf_base.specs.Names.{same_key, same_name}
use Rattle.lf_graph.specs.declared.flat_part.PartRow.{PartRow}
use Rattle.lf_graph.specs.declared.store.RowHead.{RowHead}
use Rattle.lf_graph.specs.StoredRows.{CountedRow}
use Rattle.lf_graph.specs.FlatRows.{whole_row_at}
use Rattle.lf_graph.specs.Cells.{CellsAt}
use Rattle.lf_graph.specs.Chains.{HeadsAt}

-- a row of a part, as it was in its region
abbrev pub part_row : ObjId → PartRow → CountedRow
part_row region r = record { row = record { name = r.name; owner = In region; fields = r.fields }; refs = r.refs }

-- a part: its region and its rows
pub record PartView : Type 0 where
  pub region : ObjId
  pub rows : List CountedRow

abbrev pub part_view : ObjId → List PartRow → PartView
part_view region rows = record { region = region; rows = map (part_row region) rows }

-- no key of a row comes twice, and the number of its fields is kept with them
pub record IsPartRow (r : PartRow) : Type 0 where
  pub differ : NodesDiffer same_key (map (λ f. f.0) r.fields)
  pub width : r.width ≡ length r.fields

-- each row is one
abbrev pub EachRow : List PartRow → Type 0
EachRow [] = Unit {0}
EachRow (r ∷ rs) = IsPartRow r × EachRow rs

-- each row is one, and no name comes twice
pub record IsPart (rows : List PartRow) : Type 0 where
  pub each : EachRow rows
  pub names : NodesDiffer same_name (map (λ r. r.name) rows)

-- the row is a copy of the one of that name, whatever its owner
pub record CopiesRow (heads : HeadsAt) (cells : CellsAt) (o : ObjId) (r : PartRow) : Type 0 where
  pub name : r.name ≡ o
  pub refs : r.refs ≡ (whole_row_at heads cells o).refs
  pub fields : r.fields ≡ ((whole_row_at heads cells o).row).fields

-- what is told of a row at once
abbrev pub part_head : PartRow → RowHead
part_head r = record { name = r.name; width = length r.fields; refs = r.refs }

-- the fields of a row, where there is one
abbrev pub part_fields : Option PartRow → List (Key × Value)
part_fields None = []
part_fields (Some r) = r.fields

-- the cells that rows and their fields take
abbrev pub rows_cells : List PartRow → ℕ
rows_cells [] = 0
rows_cells (r ∷ rs) = (1 + length r.fields) + rows_cells rs

abbrev pub part_cells : List CountedRow → ℕ
part_cells [] = 0
part_cells (c ∷ cs) = (1 + length (c.row).fields) + part_cells cs
