-- What the calls of a store make of its rows.
use Rattle.std.specs.Prelude.{List, None, Option, Some, [], cond, filter, map, not, ℕ, ◌++◌, ◌+◌, ◌-◌, ◌∷◌}
use Rattle.lf_base.specs.declared.ids.ObjId.{ObjId}
use Rattle.lf_base.specs.declared.values.Key.{Key}
use Rattle.lf_base.specs.declared.values.Owner.{Owner}
use Rattle.lf_base.specs.declared.values.Value.{Value}
use Rattle.lf_base.specs.TakeResult.{drop_field}
use Rattle.lf_base.specs.WriteResult.{put_field}
use Rattle.lf_graph.specs.StoredRows.{CountedRow, is_named, row_named}

-- a row with other fields
abbrev pub with_fields : List (Key × Value) → CountedRow → CountedRow
with_fields fields c = record c { row = record (c.row) { fields = fields } }

-- a row with another count
abbrev pub with_refs : ℕ → CountedRow → CountedRow
with_refs n c = record c { refs = n }

-- a row with another owner
abbrev pub with_owner : Owner → CountedRow → CountedRow
with_owner w c = record c { row = record (c.row) { owner = w } }

-- a new row: without fields and without edges to it
abbrev pub new_row : ObjId → Owner → CountedRow
new_row o w = record { row = record { name = o; owner = w; fields = [] }; refs = 0 }

-- all rows stay, but the one of that name is changed
abbrev pub changed : List CountedRow → ObjId → (CountedRow → CountedRow) → List CountedRow
changed rows o change = map (λ c. cond (is_named o c) (change c) c) rows

-- field k of o is v: in its place, or last
abbrev pub with_field_of : List CountedRow → ObjId → Key → Value → List CountedRow
with_field_of rows o k v = changed rows o (λ c. with_fields (put_field (c.row).fields k v) c)

-- field k of o is gone, and later ones close up
abbrev pub without_field_of : List CountedRow → ObjId → Key → List CountedRow
without_field_of rows o k = changed rows o (λ c. with_fields (drop_field (c.row).fields k) c)

-- o counts one edge more
abbrev pub raised : List CountedRow → ObjId → List CountedRow
raised rows o = changed rows o (λ c. with_refs (c.refs + 1) c)

-- o counts one edge less
abbrev pub lowered : List CountedRow → ObjId → List CountedRow
lowered rows o = changed rows o (λ c. with_refs (c.refs - 1) c)

-- a new row comes last
abbrev pub with_new_row : List CountedRow → ObjId → Owner → List CountedRow
with_new_row rows o w = rows ++ new_row o w ∷ []

-- the row of that name is gone
abbrev pub without_row : List CountedRow → ObjId → List CountedRow
without_row rows o = filter (λ c. not (is_named o c)) rows

-- the rows of those names are gone, one after the other
abbrev pub without_rows : List CountedRow → List ObjId → List CountedRow
without_rows rows [] = rows
without_rows rows (o ∷ os) = without_rows (without_row rows o) os

-- a row under another owner, where there is one
abbrev pub moved_under : Owner → Option CountedRow → List CountedRow
moved_under w None = []
moved_under w (Some c) = with_owner w c ∷ []

-- the row of that name comes last under its new owner
abbrev pub moved_last : List CountedRow → ObjId → Owner → List CountedRow
moved_last rows o w = without_row rows o ++ moved_under w (row_named rows o)

-- the rows of those names come last under their new owner, one after the other
abbrev pub moved_rows : List CountedRow → List ObjId → Owner → List CountedRow
moved_rows rows [] w = rows
moved_rows rows (o ∷ os) w = moved_rows (moved_last rows o w) os w
