-- Rows in a slab, each found by its name.
use Rattle.std.specs.Prelude.{Bool, None, Option, Some, false, min, true, ℕ, ◌-◌, ◌≡◌}
use Rattle.std.specs.HashMap.{HashMap}
use Rattle.std.specs.HashMap as hash
use Rattle.slab.specs.Slab.{Slab, get, slab_len}
use Rattle.lf_base.specs.declared.ids.ObjId.{ObjId}
use Rattle.lf_base.specs.Names.{same_name}
use Rattle.lf_graph.specs.declared.stored_row.Linked.{Linked}

-- the key of the row of that name
abbrev pub slab_key_of : {S : Type 0} → HashMap ObjId ℕ S → ObjId → Option ℕ
slab_key_of index o = hash.get same_name index o

-- what stands at a key, where there is one
abbrev pub head_by : Slab Linked → Option ℕ → Option Linked
head_by rows None = None
head_by rows (Some key) = get rows key

-- the row of that name with its neighbours
abbrev pub heads_in : {S : Type 0} → Slab Linked → HashMap ObjId ℕ S → ObjId → Option Linked
heads_in rows index o = head_by rows (slab_key_of index o)

-- there is a row, and it has that name
abbrev pub is_head_of : ObjId → Option Linked → Bool
is_head_of o None = false
is_head_of o (Some head) = same_name (head.row).name o

-- each name leads to a row of that name
abbrev pub NamesLeadToRows : {S : Type 0} → Slab Linked → HashMap ObjId ℕ S → Type 0
NamesLeadToRows rows index = (o : ObjId) (key : ℕ) → slab_key_of index o ≡ Some key → is_head_of o (get rows key) ≡ true

-- so many more rows have room
abbrev pub row_room : {S : Type 0} → Slab Linked → HashMap ObjId ℕ S → ℕ
row_room rows index = min (hash.spare index) (rows.capacity - slab_len rows)
