-- Rows in their order, each with its number.
use Rattle.std.specs.Prelude.{List, Option, Some, [], cond, eqb, false, length, map, not, true, ℕ, ◌++◌, ◌∷◌, ◌≡◌, None}
use Rattle.std.specs.List.{filter}
use Rattle.std.specs.Map.{lookup}
use Rattle.std.specs.Option.{option_map}
use Rattle.lf_base.specs.declared.ids.ObjId.{ObjId}
use Rattle.lf_base.specs.Links.{has, walk}
use Rattle.lf_pool.specs.Cells.{item_at, link_at, node}
use Rattle.lf_pool.specs.Pools.{IsLeft, PoolView}
use Rattle.lf_poolstore.specs.declared.unit_row.UnitRow.{UnitRow}
use Rattle.lf_poolstore.specs.UnitRows.{is_live, row_or}

-- the numbers of the cells from one on, where there is one
abbrev pub numbers : {T : Type 0} → PoolView T → ℕ → List ℕ
numbers p first = walk (length p.cells) (link_at p.cells) (node first)

-- the row in a cell
abbrev pub row_in : PoolView UnitRow → ℕ → UnitRow
row_in p x = row_or (item_at p.cells x)

-- what a contract sees of a list of rows: each with its number, and how many more have room
pub record ListView : Type 0 where
  pub entries : List (ℕ × UnitRow)
  pub spare : ℕ

-- the numbers of these cells, each with its row
abbrev pub entries_in : PoolView UnitRow → List ℕ → List (ℕ × UnitRow)
entries_in p xs = map (λ x. (x, row_in p x)) xs

abbrev pub list_view : ℕ → PoolView UnitRow → ListView
list_view first p = record { entries = entries_in p (numbers p first); spare = p.spare }

-- the rows are one chain, and exactly these are marked as rows that are there
pub record IsRowList (first : ℕ) (p : PoolView UnitRow) : Type 0 where
  pub chain : IsLeft p (node first) (numbers p first)
  pub live : (x : ℕ) → has eqb x (numbers p first) ≡ true → is_live (row_in p x) ≡ true
  pub gone : (x : ℕ) → (r : UnitRow) → item_at p.cells x ≡ Some r → has eqb x (numbers p first) ≡ false → is_live r ≡ false

-- the row of a number
abbrev pub entry_at : List (ℕ × UnitRow) → ℕ → Option UnitRow
entry_at es at = lookup (eqb at) es

-- another row at a number
abbrev pub with_entry : ℕ → UnitRow → List (ℕ × UnitRow) → List (ℕ × UnitRow)
with_entry at row es = map (λ (e : ℕ × UnitRow). cond (eqb at e.0) (at, row) e) es

-- the rows of other numbers
abbrev pub without_entry : ℕ → List (ℕ × UnitRow) → List (ℕ × UnitRow)
without_entry at es = filter (λ (e : ℕ × UnitRow). not (eqb at e.0)) es

-- the row of that number comes last
abbrev pub moved_entry : ℕ → List (ℕ × UnitRow) → List (ℕ × UnitRow)
moved_entry at es = without_entry at es ++ (at, row_or (entry_at es at)) ∷ []

-- the names of the rows, and their numbers
abbrev pub names_in : List (ℕ × UnitRow) → List ObjId
names_in es = map (λ (e : ℕ × UnitRow). (e.1).name) es

abbrev pub numbers_in : List (ℕ × UnitRow) → List ℕ
numbers_in es = map (λ (e : ℕ × UnitRow). e.0) es

-- the name of the row of a number, where there is one
abbrev pub name_by : List (ℕ × UnitRow) → Option ℕ → Option ObjId
name_by es None = None
name_by es (Some x) = option_map (λ (r : UnitRow). r.name) (entry_at es x)
