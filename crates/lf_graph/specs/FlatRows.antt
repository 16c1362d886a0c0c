-- The rows that linked rows and their fields stand for.
use Rattle.std.specs.Prelude.{List, None, Option, Some, [], map, min, ℕ, ◌++◌, ◌∷◌, ◌≡◌}
use Rattle.std.specs.HashMap.{hash_map_len}
use Rattle.lf_base.specs.declared.ids.ObjId.{ObjId}
use Rattle.lf_base.specs.declared.values.Key.{Key}
use Rattle.lf_base.specs.declared.values.Owner.{Owner}
use Rattle.lf_base.specs.declared.values.Owner.TheVariants.{Frozen, In, Local}
use Rattle.lf_base.specs.Links.{walk}
use Rattle.lf_graph.specs.declared.cells.Cells.{Cells}
use Rattle.lf_graph.specs.declared.chains.Chains.{Chains}
use Rattle.lf_graph.specs.declared.ends.Ends.{Ends}
use Rattle.lf_graph.specs.declared.stored_row.StoredRow.{StoredRow}
use Rattle.lf_graph.specs.Cells.{CellsAt, IsFieldList, cells_of, cells_room, pairs, walked_keys}
use Rattle.lf_graph.specs.ChainMaps.{ends_of, ends_room, heads_of, room_of}
use Rattle.lf_graph.specs.Chains.{AreChains, first_of, HeadsAt, link_at, linked_row_at}
use Rattle.lf_graph.specs.StoredRows.{CountedRow}

-- a row that is kept, with its fields from the cells
abbrev pub whole_row : CellsAt → ObjId → StoredRow → CountedRow
whole_row cells o r =
    record { row = record { name = o; owner = r.owner; fields = pairs cells o (walked_keys cells o r.fields) }; refs = r.refs }

-- the row of that name; a name without a row has no fields
abbrev pub whole_row_by : CellsAt → ObjId → Option StoredRow → CountedRow
whole_row_by cells o None = record { row = record { name = o; owner = Local; fields = [] }; refs = 0 }
whole_row_by cells o (Some r) = whole_row cells o r

-- the row of that name
abbrev pub whole_row_at : HeadsAt → CellsAt → ObjId → CountedRow
whole_row_at heads cells o = whole_row_by cells o (linked_row_at heads o)

-- the names of an owner's rows, in order, by a walk from the first
abbrev pub chain_of : Chains → Owner → List ObjId
chain_of t w = walk (hash_map_len (t.rows).index) (link_at (heads_of t.rows)) (first_of (ends_of t.ends w))

-- the rows of an owner
abbrev pub rows_under : Chains → Cells → Owner → List CountedRow
rows_under t cells w = map (whole_row_at (heads_of t.rows) (cells_of cells)) (chain_of t w)

-- the rows of those regions
abbrev pub region_rows : Chains → Cells → List (ObjId × Ends) → List CountedRow
region_rows t cells [] = []
region_rows t cells (e ∷ es) = rows_under t cells (In e.0) ++ region_rows t cells es

-- the rows of all owners
abbrev pub flat_rows : Chains → Cells → List CountedRow
flat_rows t cells = rows_under t cells Local ++ (rows_under t cells Frozen ++ region_rows t cells ((t.ends).regions).ends.entries)

-- the fields of a row are linked, and a name without a row has none
abbrev pub KeepsFields : CellsAt → ObjId → Option StoredRow → Type 0
KeepsFields cells o None = (k : Key) → cells o k ≡ None
KeepsFields cells o (Some r) = IsFieldList cells o r.fields (walked_keys cells o r.fields)

-- the rows of each owner are linked, and so are the fields of each row
pub record IsFlat (t : Chains) (cells : Cells) : Type 0 where
  pub chains : AreChains (heads_of t.rows) (ends_of t.ends) (chain_of t)
  pub fields : (o : ObjId) → KeepsFields (cells_of cells) o (linked_row_at (heads_of t.rows) o)

-- so many more cells have room, under every owner
abbrev pub flat_room : Chains → Cells → ℕ
flat_room t cells = min (room_of t.rows) (min (ends_room t.ends) (cells_room cells))

-- the rows of a store and its room
pub record StoreView : Type 0 where
  pub rows : List CountedRow
  pub spare : ℕ
