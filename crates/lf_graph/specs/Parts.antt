-- The rows of a region out of their store.
use Rattle.std.specs.Prelude.{List, Option, None, Some, length, ◌≡◌}
use Rattle.lf_base.specs.declared.ids.ObjId.{ObjId}
use Rattle.lf_graph.specs.declared.store.RowHead.{RowHead}
use Rattle.lf_base.specs.declared.values.Owner.{Owner}
use Rattle.lf_graph.specs.StoredRows.{CountedRow, HasRow, IsNewName, SameByOwner, rows_of, rows_outside}

-- what is told of a row at once
abbrev pub row_head : CountedRow → RowHead
row_head c = record { name = (c.row).name; width = length (c.row).fields; refs = c.refs }

-- no row of the one list has the name of a row of the other
abbrev pub AllNew : List CountedRow → List CountedRow → Type 0
AllNew part rows = (o : ObjId) → HasRow part o → IsNewName rows o

-- what is left where an owner's rows may be out: without a part all rows are there, and with
-- one it has the owner's and the others are there
abbrev pub IsLeft : Option (List CountedRow) → Owner → List CountedRow → List CountedRow → Type 0
IsLeft None w old new = SameByOwner new old
IsLeft (Some part) w old new = (part ≡ rows_of w old) × SameByOwner new (rows_outside w old)
