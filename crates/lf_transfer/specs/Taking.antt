-- What a freeze takes, found row by row.
use Rattle.std.specs.Prelude.{Bool, List, None, Option, Some, [], cond, is_some, map, true, ◌++◌, ◌≡◌, ◌⊎◌}
use Rattle.std.specs.List.{list_any}
use Rattle.lf_base.specs.declared.ids.ObjId.{ObjId}
use Rattle.lf_base.specs.declared.values.Owner.{Owner}
use Rattle.lf_base.specs.declared.values.Owner.TheVariants.{In}
use Rattle.lf_base.specs.declared.values.Value.{Value}
use Rattle.lf_base.specs.Edges.{field_targets}
use Rattle.lf_base.specs.Names.{same_name, targets_of_value}
use Rattle.lf_base.specs.Owners.{has_name, is_in}
use Rattle.lf_base.specs.Sets.{Differ, Member}
use Rattle.lf_barrier.specs.Surveys.{names_with}
use Rattle.lf_frozen.specs.declared.row.FrozenRow.{FrozenRow}
use Rattle.lf_graph.specs.RowOrder.{names_under}
use Rattle.lf_graph.specs.StoredRows.{CountedRow, HasRow, fields_at, owner_at, row_named}
use Rattle.lf_transfer.specs.declared.taking.Taking.{Taking}

-- the region of a row of that owner
abbrev pub region_of : Option Owner → Option ObjId
region_of (Some (In r)) = Some r
region_of _ = None

-- the regions with that one, last, where it isn't there
abbrev pub region_with : List ObjId → Option ObjId → List ObjId
region_with os None = os
region_with os (Some r) = names_with os r

-- all rows of the region of row p, where p is its bridge
abbrev pub owned_rows : List CountedRow → ObjId → Option ObjId → List ObjId
owned_rows rows p None = []
owned_rows rows p (Some r) = cond (same_name r p) (names_under (In r) rows) []

-- what row p brings in: the objects to which its fields refer, and the rows of its region where it is a bridge
abbrev pub brought : List CountedRow → ObjId → List ObjId
brought rows p = field_targets (fields_at rows p) ++ owned_rows rows p (region_of (owner_at rows p))

-- the frozen row that the row of that name becomes
abbrev pub frozen_of : List CountedRow → ObjId → FrozenRow
frozen_of rows o = record { id = o; fields = fields_at rows o }

-- the store has a row of that name
abbrev pub is_stored : List CountedRow → ObjId → Bool
is_stored rows o = is_some (row_named rows o)

-- those of the objects that pass the test were taken: put last, each where it wasn't there
pub record Takes (is_wanted : ObjId → Bool) (os before after : List ObjId) : Type 0 where
  pub covered : (t : ObjId) → Member t os → is_wanted t ≡ true → has_name after t ≡ true
  pub only : (t : ObjId) → has_name after t ≡ true → (has_name before t ≡ true) ⊎ (Member t os × (is_wanted t ≡ true))
  pub differ : Differ same_name before → Differ same_name after
  pub more : List ObjId
  pub grows : after ≡ before ++ more

-- all that a freeze of v takes was found: what v refers to, and what each row that is taken brings in; with the regions and the
-- frozen rows of what is taken
pub record IsTaking (rows : List CountedRow) (v : Value) (found : Taking) : Type 0 where
  pub there : (o : ObjId) → has_name (found.taken).keys o ≡ true → HasRow rows o
  pub differ : Differ same_name (found.taken).keys
  pub first : (o : ObjId) → Member o (targets_of_value v) → HasRow rows o → has_name (found.taken).keys o ≡ true
  pub next : (p o : ObjId) → has_name (found.taken).keys p ≡ true → Member o (brought rows p) → HasRow rows o
      → has_name (found.taken).keys o ≡ true
  pub once : Differ same_name (found.regions).keys
  pub lies : (q : ObjId) → has_name (found.regions).keys q ≡ list_any (λ o. is_in q (owner_at rows o)) (found.taken).keys
  pub copied : found.rows ≡ map (frozen_of rows) (found.taken).keys
