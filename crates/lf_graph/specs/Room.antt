-- The room that a store has under each owner, and what its calls need of it.
use Rattle.std.specs.Prelude.{List, Some, is_some, cond, length, ℕ, ◌+◌, ◌≡◌, ◌≤◌, ◌≢◌}
use Rattle.lf_base.specs.declared.ids.ObjId.{ObjId}
use Rattle.lf_base.specs.declared.values.Key.{Key}
use Rattle.lf_base.specs.declared.values.Owner.{Owner}
use Rattle.lf_graph.specs.StoredRows.{CountedRow, field_value_at, fields_at, owner_at}

-- no owner has less room than before
abbrev pub LowersNone : (Owner → ℕ) → (Owner → ℕ) → Type 0
LowersNone old new = (w : Owner) → old w ≤ new w

-- no owner has lost more room than n
abbrev pub LowersAtMost : (Owner → ℕ) → (Owner → ℕ) → ℕ → Type 0
LowersAtMost old new n = (w : Owner) → old w ≤ new w + n

-- no owner but that of row o has less room than before
abbrev pub LowersOwnerOf : (Owner → ℕ) → (Owner → ℕ) → List CountedRow → ObjId → Type 0
LowersOwnerOf old new rows o = (w : Owner) → owner_at rows o ≢ Some w → old w ≤ new w

-- the owner of row o has room for n
abbrev pub OwnerHasRoom : (Owner → ℕ) → List CountedRow → ObjId → ℕ → Type 0
OwnerHasRoom spare rows o n = (w : Owner) → owner_at rows o ≡ Some w → n ≤ spare w

-- what a write of field k of row o needs: 1 where the field is new, and else nothing
abbrev pub room_for_field : List CountedRow → ObjId → Key → ℕ
room_for_field rows o k = cond (is_some (field_value_at rows o k)) 0 1

-- what row o needs under a new owner: 1, and 1 for each field
abbrev pub room_for_row : List CountedRow → ObjId → ℕ
room_for_row rows o = 1 + length (fields_at rows o)
