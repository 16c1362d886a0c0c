-- A store's units by their numbers, and where each owner's unit and each row is found.
use Rattle.std.specs.Prelude.{List, None, Option, Some, [], cond, eqb, min, ℕ, ◌++◌, ◌+◌, ◌∷◌, ◌≡◌, ◌≢◌, ◌≤◌}
use Rattle.std.specs.Option.{option_map}
use Rattle.std.specs.HashMap.{HashMap}
use Rattle.std.specs.HashMap as hash
use Rattle.lf_base.specs.declared.ids.ObjId.{ObjId}
use Rattle.lf_base.specs.declared.values.Owner.{Owner}
use Rattle.lf_base.specs.declared.values.Owner.TheVariants.{Frozen, In, Local}
use Rattle.lf_base.specs.Names.{same_name, same_owner}
use Rattle.lf_graph.specs.Room.{room_for_row}
use Rattle.lf_graph.specs.RowChanges.{moved_under, without_row}
use Rattle.lf_graph.specs.StoredRows.{CountedRow, row_named}
use Rattle.lf_poolstore.specs.declared.place.Place.{Place}
use Rattle.lf_poolstore.specs.Units.{IsWhole, StandsAt, UnitView, place_in}

-- the unit of each number, where there is one
abbrev pub UnitsAt : Type 0
UnitsAt = ℕ → Option UnitView

-- the number of each owner's unit, where there is one
abbrev pub Numbers : Type 0
Numbers = Owner → Option ℕ

-- the rows of a unit, where there is one
abbrev pub rows_by : Option UnitView → List CountedRow
rows_by None = []
rows_by (Some u) = u.rows

-- the rows of all these units
abbrev pub slot_rows : List (Option UnitView) → List CountedRow
slot_rows [] = []
slot_rows (s ∷ ss) = rows_by s ++ slot_rows ss

-- the unit of a number, where there is one
abbrev pub unit_by : UnitsAt → Option ℕ → Option UnitView
unit_by at None = None
unit_by at (Some n) = at n

-- the unit of an owner
abbrev pub unit_of : Numbers → UnitsAt → Owner → Option UnitView
unit_of numbers at w = unit_by at (numbers w)

-- so many cells have room in a unit, where the index of names has room for so many
abbrev pub spare_by : ℕ → Option UnitView → ℕ
spare_by names None = 0
spare_by names (Some u) = min names u.spare

abbrev pub place_of : ℕ → ℕ → Place
place_of n x = record { unit = n; row = x }

-- a name's place in the unit of number n, or else the one of before
abbrev pub led_by : ℕ → Option ℕ → Option Place → Option Place
led_by n None before = before
led_by n (Some x) before = Some (place_of n x)

-- the number of an owner's unit: that of local rows, that of frozen rows, or that of a region
abbrev pub number_of : {S : Type 0} → ℕ → ℕ → HashMap ObjId ℕ S → Numbers
number_of local frozen regions Local = Some local
number_of local frozen regions (In r) = hash.get same_name regions r
number_of local frozen regions Frozen = Some frozen

-- the same where no region has a unit
abbrev pub first_number_of : ℕ → ℕ → Numbers
first_number_of local frozen Local = Some local
first_number_of local frozen (In r) = None
first_number_of local frozen Frozen = Some frozen

-- each owner's number leads to its unit, each unit has its owner's number, and the index leads to each row
pub record ArePools (index : ObjId → Option Place) (numbers : Numbers) (at : UnitsAt) : Type 0 where
  pub whole : (n : ℕ) → (u : UnitView) → at n ≡ Some u → IsWhole u
  pub owned : (n : ℕ) → (u : UnitView) → at n ≡ Some u → numbers u.owner ≡ Some n
  pub there : (w : Owner) → option_map (λ (u : UnitView). u.owner) (unit_of numbers at w) ≡ option_map (λ _. w) (numbers w)
  pub indexed : (n : ℕ) → (u : UnitView) → (o : ObjId) → (x : ℕ) → at n ≡ Some u → StandsAt u x o → index o ≡ Some (place_of n x)

-- a unit comes under a number that had none, and its owner has that number
pub record AddsUnit (numbers next : Numbers) (at now : UnitsAt) (n : ℕ) (v : UnitView) : Type 0 where
  pub vacant : at n ≡ None
  pub here : now n ≡ Some v
  pub others : (m : ℕ) → m ≢ n → now m ≡ at m
  pub number : (w : Owner) → next w ≡ cond (same_owner v.owner w) (Some n) (numbers w)

-- the same numbers and units
pub record SamePools (numbers next : Numbers) (at now : UnitsAt) : Type 0 where
  pub number : (w : Owner) → next w ≡ numbers w
  pub unit : (m : ℕ) → now m ≡ at m

-- a row of unit n goes last under unit k, with its fields and its count, and is that of number x there
pub record MovesRow (at now : UnitsAt) (n k : ℕ) (u t : UnitView) (o : ObjId) (x : ℕ) : Type 0 where
  pub left : UnitView
  pub taken : UnitView
  pub units : (m : ℕ) → now m ≡ cond (eqb k m) (Some taken) (cond (eqb n m) (Some left) (at m))
  pub left_owner : left.owner ≡ u.owner
  pub left_whole : IsWhole left
  pub left_rows : left.rows ≡ without_row u.rows o
  pub left_places : (q : ObjId) → place_in left q ≡ cond (same_name o q) None (place_in u q)
  pub left_room : u.spare ≤ left.spare
  pub taken_owner : taken.owner ≡ t.owner
  pub taken_whole : IsWhole taken
  pub taken_rows : taken.rows ≡ t.rows ++ moved_under t.owner (row_named u.rows o)
  pub taken_places : (q : ObjId) → place_in taken q ≡ cond (same_name o q) (Some x) (place_in t q)
  pub taken_room : t.spare ≤ taken.spare + room_for_row u.rows o
