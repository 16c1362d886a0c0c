-- What is kept of a row.
use Rattle.std.specs.Prelude.{Bool, None, Option, Some, eqb, ltb, ◌||◌}
use Rattle.lf_pool.specs.declared.cell.TheConstants.{NONE}
use Rattle.lf_poolstore.specs.declared.unit_row.UnitRow.{UnitRow}

-- no row has a first cell and no fields, so that stands where a row is gone
abbrev pub is_live : UnitRow → Bool
is_live r = ltb 0 r.width || eqb r.fields NONE

-- the row found; where there is none, one without name and fields
abbrev pub row_or : Option UnitRow → UnitRow
row_or None = record { name = record { birth = 0; seq = 0 }; refs = 0; fields = NONE; width = 0 }
row_or (Some r) = r

-- a row without its fields
abbrev pub bare : UnitRow → UnitRow
bare r = record { name = r.name; refs = r.refs; fields = NONE; width = 0 }
