-- Rows of each owner that stand in the same order, whatever their fields and counts are.
use Rattle.std.specs.Prelude.{List, ◌≡◌}
use Rattle.lf_base.specs.declared.ids.ObjId.{ObjId}
use Rattle.lf_base.specs.declared.values.Owner.{Owner}
use Rattle.lf_base.specs.Owners.{names}
use Rattle.lf_graph.specs.StoredRows.{CountedRow, plain, rows_of}

-- the names of an owner's rows, in their order
abbrev pub names_under : Owner → List CountedRow → List ObjId
names_under w rows = names (plain (rows_of w rows))

-- each owner has rows of the same names in the same order
abbrev pub SameOrder : List CountedRow → List CountedRow → Type 0
SameOrder xs ys = (w : Owner) → names_under w xs ≡ names_under w ys
