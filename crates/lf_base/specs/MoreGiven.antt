-- A state that was given more frozen rows.
use Rattle.std.specs.Prelude.{List, false, true, ◌≡◌}
use Rattle.lf_base.specs.declared.ids.ObjId.{ObjId}
use Rattle.lf_base.specs.HeapCalls.{Changed, Done, Refused}
use Rattle.lf_base.specs.Owners.{has_row, row_at}
use Rattle.lf_base.specs.PlainState.{Row, State}
use Rattle.lf_base.specs.Sets.{Member}
use Rattle.lf_base.specs.WellFormed.{WellFormed}

-- the state with other frozen rows given
abbrev pub with_given : State → List Row → State
with_given s many = record s { given = many }

-- the second rows have all of the first
abbrev pub Holds : List Row → List Row → Type 0
Holds few many = (o : ObjId) → has_row few o ≡ true → row_at many o ≡ row_at few o

-- both are well-formed, and what was given stands among the many
pub record More (s : State) (many : List Row) : Type 0 where
  pub whole : WellFormed s
  pub more : WellFormed (with_given s many)
  pub holds : Holds s.given many

-- no frozen row has the name of one of the rows
abbrev pub Foreign : List Row → List Row → Type 0
Foreign rows given = (x : Row) → Member x given → has_row rows x.name ≡ false

-- what comes of a call, with other frozen rows given
abbrev pub change_given : List Row → Changed → Changed
change_given many (Done s) = Done (with_given s many)
change_given many (Refused f) = Refused f

-- of what comes of a call, if it isn't refused, the many are still more
abbrev pub StaysMore : List Row → Changed → Type 0
StaysMore many (Done s) = More s many
StaysMore many (Refused f) = Unit {0}
