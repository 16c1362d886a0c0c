-- Contents of cowns by themselves: what a content tells, the part of a state that one content has, and the state that contents make.
use Rattle.std.specs.Prelude.{List, [], map, ℕ, ◌∷◌}
use Rattle.lf_base.specs.declared.ids.CownId.{CownId}
use Rattle.lf_base.specs.declared.values.Value.{Value}
use Rattle.lf_base.specs.FreezeResult.{insert_rows}
use Rattle.lf_base.specs.Kept.{kept_rows}
use Rattle.lf_base.specs.PlainState.{Row, State}

-- a content as contracts see it: the value that its cown's field has, and its rows by rising name
pub record Parked : Type 0 where
  pub value : Value
  pub rows : List Row

-- contents of another type, seen so
abbrev pub seen : {C : Type 0} → (C → Value) → (C → List Row) → List (CownId × C) → List (CownId × Parked)
seen value_of rows_of cs = map (λ c. (c.0, record { value = value_of c.1; rows = rows_of c.1 })) cs

-- the cowns of contents
abbrev pub cowns_of : {C : Type 0} → List (CownId × C) → List CownId
cowns_of cs = map (λ c. c.0) cs

-- the contents without their rows
abbrev pub values_of : List (CownId × Parked) → List (CownId × Value)
values_of cs = map (λ c. (c.0, c.1.value)) cs

-- the rows of all contents by rising name
abbrev pub joined_rows : List (CownId × Parked) → List Row
joined_rows [] = []
joined_rows (c ∷ cs) = insert_rows c.1.rows (joined_rows cs)

-- the state in which that content stands alone
abbrev pub alone : State → CownId × Value → State
alone s c = record s { slots = []; held = c ∷ []; made = [] }

-- the rows of a content: those that stay where it stands alone
abbrev pub part : State → CownId × Value → List Row
part s c = kept_rows (alone s c)

-- contents with their rows in the state
abbrev pub parted : State → List (CownId × Value) → List (CownId × Parked)
parted s cs = map (λ c. (c.0, record { value = c.1; rows = part s c })) cs

-- contents as one state, of a behaviour that has made nothing and has no slots
abbrev pub stored : ℕ → List (CownId × Parked) → List Row → State
stored birth cs frozen = record {
  birth = birth;
  objects = 0;
  cowns = 0;
  rows = joined_rows cs;
  slots = [];
  held = values_of cs;
  made = [];
  given = frozen;
  own = [];
}

-- one content as such a state
abbrev pub single : ℕ → CownId → Parked → List Row → State
single birth c v frozen = record {
  birth = birth;
  objects = 0;
  cowns = 0;
  rows = v.rows;
  slots = [];
  held = (c, v.value) ∷ [];
  made = [];
  given = frozen;
  own = [];
}

-- one content alone, with no frozen rows
abbrev pub lone : CownId → Parked → State
lone c v = single 0 c v []
