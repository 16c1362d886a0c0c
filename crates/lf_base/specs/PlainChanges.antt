-- Plain changes: of slots, and new objects.
use Rattle.std.specs.Prelude.{List, None, Option, [], cond, suc, zero, ℕ, ◌++◌, ◌+◌, ◌∷◌}
use Rattle.lf_base.specs.declared.ids.ObjId.{ObjId}
use Rattle.lf_base.specs.declared.values.Owner.{Owner}
use Rattle.lf_base.specs.declared.values.Owner.TheVariants.{In, Local}
use Rattle.lf_base.specs.declared.values.Value.{Value}
use Rattle.lf_base.specs.Names.{name_below}
use Rattle.lf_base.specs.PlainState.{Row, State}

-- the state of a behaviour that begins with frozen rows alone
abbrev pub first_state : ℕ → List Row → State
first_state birth given = record {
  birth = birth;
  objects = 0;
  cowns = 0;
  rows = [];
  slots = [];
  held = [];
  made = [];
  given = given;
  own = [];
}

-- the slot at a place, counted from 0
abbrev pub slot_at : List (Option Value) → ℕ → Option Value
slot_at [] n = None
slot_at (x ∷ xs) zero = x
slot_at (x ∷ xs) (suc n) = slot_at xs n

-- the slots with the one at a place replaced
abbrev pub put_slot : List (Option Value) → ℕ → Option Value → List (Option Value)
put_slot [] n w = []
put_slot (x ∷ xs) zero w = w ∷ xs
put_slot (x ∷ xs) (suc n) w = x ∷ put_slot xs n w

-- the state with the slot at a place replaced
abbrev pub with_slot_at : State → ℕ → Option Value → State
with_slot_at s n w = record s { slots = put_slot s.slots n w }

-- the state with other slots
abbrev pub with_slots : State → List (Option Value) → State
with_slots s slots = record s { slots = slots }

-- the state with one slot more
abbrev pub with_slot : State → Option Value → State
with_slot s w = record s { slots = s.slots ++ w ∷ [] }

-- the name of the next object
abbrev pub next_object : State → ObjId
next_object s = record { birth = s.birth; seq = s.objects + 1 }

-- a row put among rows that stand by rising name
abbrev pub insert_row : Row → List Row → List Row
insert_row x [] = x ∷ []
insert_row x (y ∷ ys) = cond (name_below x.name y.name) (x ∷ (y ∷ ys)) (y ∷ insert_row x ys)

-- the state with one more row, without fields
abbrev pub with_row : State → Owner → State
with_row s w = record s { objects = s.objects + 1; rows = insert_row (record { name = next_object s; owner = w; fields = [] }) s.rows }

-- a new local object, and a new region of one bridge
abbrev pub object_result : State → State
object_result s = with_row s Local

-- a new region, of its bridge alone
abbrev pub region_result : State → State
region_result s = with_row s (In (next_object s))
