-- The rows of a store, and what is found among them.
use Rattle.std.specs.Prelude.{List, None, Option, Some, [], cond, filter, is_some, map, ℕ, Bool, not, true, ◌∷◌, ◌≡◌}
use Rattle.lf_base.specs.declared.ids.ObjId.{ObjId}
use Rattle.lf_base.specs.declared.values.Key.{Key}
use Rattle.lf_base.specs.declared.values.Owner.{Owner}
use Rattle.lf_base.specs.declared.values.Value.{Value}
use Rattle.lf_base.specs.FreezeResult.{insert_rows}
use Rattle.lf_base.specs.Names.{same_name, same_owner}
use Rattle.lf_base.specs.Owners.{names}
use Rattle.lf_base.specs.PlainState.{Row}
use Rattle.lf_base.specs.Sets.{Differ}
use Rattle.lf_base.specs.TakeResult.{field_at}

-- a row with the count that the store keeps with it
pub record CountedRow : Type 0 where
  pub row : Row
  pub refs : ℕ

-- the rows without their counts
abbrev pub plain : List CountedRow → List Row
plain rows = map (λ c. c.row) rows

-- the row has that name
abbrev pub is_named : ObjId → CountedRow → Bool
is_named o c = same_name (c.row).name o

-- the row has that owner
abbrev pub is_under : Owner → CountedRow → Bool
is_under w c = same_owner (c.row).owner w

-- the rows of one owner, in the order in which they came
abbrev pub rows_of : Owner → List CountedRow → List CountedRow
rows_of w rows = filter (is_under w) rows

-- the rows of all other owners
abbrev pub rows_outside : Owner → List CountedRow → List CountedRow
rows_outside w rows = filter (λ c. not (is_under w c)) rows

-- each owner has the same rows in the same order; how rows of two owners stand to each other isn't said
abbrev pub SameByOwner : List CountedRow → List CountedRow → Type 0
SameByOwner xs ys = (w : Owner) → rows_of w xs ≡ rows_of w ys

-- no two rows have one name
abbrev pub NamesDiffer : List CountedRow → Type 0
NamesDiffer rows = Differ same_name (names (plain rows))

-- the row of that name
abbrev pub row_named : List CountedRow → ObjId → Option CountedRow
row_named [] o = None
row_named (c ∷ cs) o = cond (is_named o c) (Some c) (row_named cs o)

-- there is a row of that name
abbrev pub HasRow : List CountedRow → ObjId → Type 0
HasRow rows o = is_some (row_named rows o) ≡ true

-- there is no row of that name
abbrev pub IsNewName : List CountedRow → ObjId → Type 0
IsNewName rows o = row_named rows o ≡ None

-- the owner of a row, where there is one
abbrev pub owner_by : Option CountedRow → Option Owner
owner_by None = None
owner_by (Some c) = Some ((c.row).owner)

-- the fields of a row, where there is one
abbrev pub fields_by : Option CountedRow → List (Key × Value)
fields_by None = []
fields_by (Some c) = (c.row).fields

-- the count of a row, where there is one
abbrev pub refs_by : Option CountedRow → ℕ
refs_by None = 0
refs_by (Some c) = c.refs

-- the owner of the row of that name
abbrev pub owner_at : List CountedRow → ObjId → Option Owner
owner_at rows o = owner_by (row_named rows o)

-- the fields of the row of that name, in order
abbrev pub fields_at : List CountedRow → ObjId → List (Key × Value)
fields_at rows o = fields_by (row_named rows o)

-- the count of the row of that name
abbrev pub refs_at : List CountedRow → ObjId → ℕ
refs_at rows o = refs_by (row_named rows o)

-- the value of a field of the row of that name
abbrev pub field_value_at : List CountedRow → ObjId → Key → Option Value
field_value_at rows o k = field_at (fields_at rows o) k

-- the name of the first row
abbrev pub first_name : List CountedRow → Option ObjId
first_name [] = None
first_name (c ∷ cs) = Some ((c.row).name)

-- the name of the row after the one of that name
abbrev pub name_after : List CountedRow → ObjId → Option ObjId
name_after [] o = None
name_after (c ∷ cs) o = cond (is_named o c) (first_name cs) (name_after cs o)

-- the first name and the one after it, where there is a first one
abbrev pub two_names : List CountedRow → Option (ObjId × Option ObjId)
two_names [] = None
two_names (c ∷ cs) = Some ((c.row).name, first_name cs)

-- the rows of an owner, where there is one
abbrev pub rows_of_maybe : Option Owner → List CountedRow → List CountedRow
rows_of_maybe None rows = []
rows_of_maybe (Some w) rows = rows_of w rows

-- the rows of the same owner as the row of that name
abbrev pub rows_beside : List CountedRow → ObjId → List CountedRow
rows_beside rows o = rows_of_maybe (owner_at rows o) rows

-- the rows by rising name
abbrev pub rows_by_name : List Row → List Row
rows_by_name rows = insert_rows rows []

-- a store with these rows is that of a state with those rows
pub record AreRowsOf (rows : List CountedRow) (state_rows : List Row) : Type 0 where
  pub differ : NamesDiffer rows
  pub rise : rows_by_name (plain rows) ≡ state_rows
