-- A take of a field: its result, and what it is refused for.
use Rattle.std.specs.Prelude.{List, None, Option, Some, [], cond, map, ◌∷◌}
use Rattle.std.specs.Prelude.{is_some}
use Rattle.lf_base.specs.declared.faults.Fault.{Fault}
use Rattle.lf_base.specs.declared.faults.Fault.TheVariants.{FrozenWrite, NoField}
use Rattle.lf_base.specs.declared.ids.ObjId.{ObjId}
use Rattle.lf_base.specs.declared.values.Key.{Key}
use Rattle.lf_base.specs.declared.values.Value.{Value}
use Rattle.lf_base.specs.Names.{same_key}
use Rattle.lf_base.specs.Owners.{row_at}
use Rattle.lf_base.specs.PlainState.{Row, State}
use Rattle.lf_base.specs.WriteResult.{is_at}

-- the value of a field, where it is there
abbrev pub field_at : List (Key × Value) → Key → Option Value
field_at [] k = None
field_at (f ∷ fs) k = cond (same_key f.0 k) (Some f.1) (field_at fs k)

-- the value of a row's field
abbrev pub row_field : Option Row → Key → Option Value
row_field None k = None
row_field (Some r) k = field_at r.fields k

-- the fields without k; later ones close up
abbrev pub drop_field : List (Key × Value) → Key → List (Key × Value)
drop_field [] k = []
drop_field (f ∷ fs) k = cond (same_key f.0 k) fs (f ∷ drop_field fs k)

-- the rows with field k of x taken out
abbrev pub take_fields : List Row → ObjId → Key → List Row
take_fields rows x k = map (λ r. cond (is_at x r) (record r { fields = drop_field r.fields k }) r) rows

-- the field k of x is taken out
abbrev pub take_result : State → ObjId → Key → State
take_result s x k = record s { rows = take_fields s.rows x k }

-- what the taking of a field is refused for: a target without a mutable row is frozen, and else the field must be there
abbrev pub take_refusal_by : Option Row → Key → Option Fault
take_refusal_by None k = Some FrozenWrite
take_refusal_by (Some r) k = cond (is_some (field_at r.fields k)) None (Some NoField)

-- what the taking of field k of x is refused for
abbrev pub take_refusal : State → ObjId → Key → Option Fault
take_refusal s x k = take_refusal_by (row_at s.rows x) k
