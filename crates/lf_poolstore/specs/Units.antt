-- A unit: the rows of one owner, in order, and where each stands.
use Rattle.std.specs.Prelude.{List, None, Option, Some, [], cond, eqb, false, filter_map, is_some, length, map, min, ℕ, ◌≡◌, ◌≢◌}
use Rattle.std.specs.Map.{lookup}
use Rattle.lf_base.specs.declared.ids.ObjId.{ObjId}
use Rattle.lf_base.specs.declared.values.Key.{Key}
use Rattle.lf_base.specs.declared.values.Owner.{Owner}
use Rattle.lf_base.specs.declared.values.Value.{Value}
use Rattle.lf_base.specs.Links.{NodesDiffer}
use Rattle.lf_base.specs.Names.{same_name, same_owner}
use Rattle.lf_pool.specs.Cells.{item_at, node}
use Rattle.lf_pool.specs.Pools.{IsLeft, PoolView}
use Rattle.lf_graph.specs.StoredRows.{CountedRow, row_named, rows_of}
use Rattle.lf_poolstore.specs.declared.unit_row.UnitRow.{UnitRow}
use Rattle.lf_poolstore.specs.RowLists.{ListView, entry_at, names_in, numbers, numbers_in}

abbrev pub FieldPool : Type 0
FieldPool = PoolView (Key × Value)

-- the fields in these cells
abbrev pub items_in : FieldPool → List ℕ → List (Key × Value)
items_in cells xs = filter_map (item_at cells.cells) xs

-- the field in a cell, where there is one
abbrev pub pair_by : FieldPool → Option ℕ → Option (Key × Value)
pair_by cells None = None
pair_by cells (Some x) = item_at cells.cells x

-- the fields of a row
abbrev pub fields_of : FieldPool → UnitRow → List (Key × Value)
fields_of cells r = items_in cells (numbers cells r.fields)

-- a row with its fields
abbrev pub whole : Owner → FieldPool → UnitRow → CountedRow
whole owner cells r = record { row = record { name = r.name; owner = owner; fields = fields_of cells r }; refs = r.refs }

-- the first cell of a row leads to its fields, and their number is kept
pub record KeepsFields (cells : FieldPool) (r : UnitRow) : Type 0 where
  pub chain : IsLeft cells (node r.fields) (numbers cells r.fields)
  pub count : length (numbers cells r.fields) ≡ r.width

-- two rows share no cells
abbrev pub Apart : UnitRow → UnitRow → Type 0
Apart r s = (c : ℕ) → node r.fields ≡ Some c → node s.fields ≢ Some c

-- a row keeps its name and its count
pub record KeepsRow (old new : UnitRow) : Type 0 where
  pub name : new.name ≡ old.name
  pub refs : new.refs ≡ old.refs

-- the row has these fields now, and each row that shares no cells with it has what it had
pub record Writes (m n : FieldPool) (old new : UnitRow) (fields : List (Key × Value)) : Type 0 where
  pub keeps : KeepsFields n new
  pub here : fields_of n new ≡ fields
  pub others : (s : UnitRow) → KeepsFields m s → Apart old s → KeepsFields n s × (fields_of n s ≡ fields_of m s) × Apart new s

-- what a contract sees of a unit: its owner, its rows in order, the number of each by its name, and how many more cells have room
pub record UnitView : Type 0 where
  pub owner : Owner
  pub rows : List CountedRow
  pub places : List (ObjId × ℕ)
  pub spare : ℕ

-- the number of the row of that name
abbrev pub place_in : UnitView → ObjId → Option ℕ
place_in u o = lookup (same_name o) u.places

-- the row of that name stands at that number
abbrev pub StandsAt : UnitView → ℕ → ObjId → Type 0
StandsAt u at o = place_in u o ≡ Some at

abbrev pub rows_in : Owner → FieldPool → List (ℕ × UnitRow) → List CountedRow
rows_in owner cells es = map (λ (e : ℕ × UnitRow). whole owner cells e.1) es

abbrev pub places_in : List (ℕ × UnitRow) → List (ObjId × ℕ)
places_in es = map (λ (e : ℕ × UnitRow). ((e.1).name, e.0)) es

abbrev pub unit_view : Owner → ListView → FieldPool → UnitView
unit_view owner rows cells = record {
  owner = owner;
  rows = rows_in owner cells rows.entries;
  places = places_in rows.entries;
  spare = min rows.spare cells.spare;
}

-- no two rows have one number or one name, each leads to its fields, and no two share cells
pub record IsUnit (es : List (ℕ × UnitRow)) (cells : FieldPool) : Type 0 where
  pub numbers_differ : NodesDiffer eqb (numbers_in es)
  pub names_differ : NodesDiffer same_name (names_in es)
  pub fields : (at : ℕ) → (r : UnitRow) → entry_at es at ≡ Some r → KeepsFields cells r
  pub apart : (a b : ℕ) → (r s : UnitRow) → entry_at es a ≡ Some r → entry_at es b ≡ Some s → eqb a b ≡ false → (c : ℕ) → node r.fields ≡ Some c → node s.fields ≢ Some c

-- all rows of a unit have its owner, and a name has a number exactly where it has a row
pub record IsWhole (u : UnitView) : Type 0 where
  pub under : (w : Owner) → rows_of w u.rows ≡ cond (same_owner u.owner w) u.rows []
  pub placed : (o : ObjId) → is_some (row_named u.rows o) ≡ is_some (place_in u o)
